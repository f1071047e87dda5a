-- Worked rows of requests: each call that a home makes, with its mark, its reply and what it leaves.
use Rattle.std.specs.Prelude.{◌≡◌, ℕ, ◌-◌, ◌^◌, List, [], ◌∷◌, Option, Some}
use Rattle.std.specs.Option.{option_map, option_and_then}
use Rattle.std.specs.FinMap as map
use Rattle.gr_syntax.specs.declared.limits.TheConstants.{HEAP}
use Rattle.gr_lang.specs.declared.action.Op.{Op}
use Rattle.gr_lang.specs.declared.action.Op.TheVariants as op
use Rattle.gr_lang.specs.declared.action.Reply.{Reply}
use Rattle.gr_lang.specs.declared.action.Entry.TheVariants as entry
use Rattle.gr_lang.specs.Effects.{nothing, one}
use Rattle.gr_lang.specs.Objects.{array}
use Rattle.gr_msg.specs.declared.message.Msg.TheVariants as msg
use Rattle.gr_machine.specs.declared.mark.Mark.{Mark}
use Rattle.gr_machine.specs.Machines.{Machine}
use Rattle.gr_machine.specs.Openings.{opening_core}
use Rattle.gr_machine.specs.Outcomes.{Send, Outcome, to, marked}
use Rattle.gr_machine.specs.Serves.{serves}
use Rattle.gr_machine.specs.RowWords.{setup_of, objects_of, scripted, machine_with, id}

-- One core: an array of one word, 5, and a heap of four words behind it.
abbrev pub store : Machine
store = machine_with (setup_of 1 8 32) (scripted (λ target args words. []) 0 (0 ∷ [])
    (record (objects_of (5 ∷ 0 ∷ 0 ∷ 0 ∷ 0 ∷ []) (array 0 1 ∷ [])) { heap = record { from = 1; count = 4 } }))

abbrev pub made : ℕ → ℕ → ℕ → ℕ → Option Outcome
made operation x y z = serves store 0 (opening_core store 0 0).body 0 (msg.Request 3 (id 0 7) operation x y z)

-- The call is marked with this reply, the reply is sent back to the slot, and this word stands at a place then.
abbrev pub marks_of : ℕ → ℕ → ℕ → ℕ → Option (List Mark)
marks_of operation x y z = option_map (λ outcome. outcome.marks) (made operation x y z)

abbrev pub sends_of : ℕ → ℕ → ℕ → ℕ → Option (List Send)
sends_of operation x y z = option_map (λ outcome. outcome.sends) (made operation x y z)

abbrev pub word_at : ℕ → ℕ → ℕ → ℕ → ℕ → Option ℕ
word_at place operation x y z = option_and_then (λ outcome. outcome.body.words.segment place) (made operation x y z)

abbrev pub call : Op → Reply → Option (List Mark)
call what reply = Some (marked (entry.Call (id 0 7) what reply))

abbrev pub reply_with : ℕ → Option (List Send)
reply_with word = Some (to 0 (msg.Reply 3 (id 0 7) word 0))

pub record WordsAreCalled : Type 0 where
  pub read : marks_of 1 0 0 0 ≡ call (op.Read 0 0) (one 5)
  pub read_reply : sends_of 1 0 0 0 ≡ reply_with 5
  pub write : word_at 0 2 0 8 0 ≡ Some 8
  pub write_mark : marks_of 2 0 8 0 ≡ call (op.Write 0 0 8) nothing
  pub write_reply : sends_of 2 0 8 0 ≡ reply_with 0
  pub add : word_at 0 3 0 (2 ^ 64 - 1) 0 ≡ Some 4
  pub add_mark : marks_of 3 0 1 0 ≡ call (op.Add 0 0 1) (one 5)
  pub cas : word_at 0 4 0 5 6 ≡ Some 6
  pub cas_other : word_at 0 4 0 4 6 ≡ Some 5
  pub cas_mark : marks_of 4 0 4 6 ≡ call (op.Cas 0 0 4 6) (one 5)
  pub in_heap : word_at 2 3 2 7 0 ≡ Some 7
  pub in_heap_mark : marks_of 3 2 7 0 ≡ call (op.Add HEAP 2 7) (one 0)

-- Two words are free at the heap's start, five are not; no block starts there.
pub record BlocksAreMade : Type 0 where
  pub alloc : marks_of 5 2 0 0 ≡ call (op.Alloc 2) (one 1)
  pub alloc_reply : sends_of 5 2 0 0 ≡ reply_with 1
  pub alloc_live : option_map (λ outcome. outcome.body.words.blocks) (made 5 2 0 0) ≡ Some (map.insert map.empty 1 2)
  pub too_many : marks_of 5 5 0 0 ≡ call (op.Alloc 5) (one (2 ^ 64 - 1))
  pub free : marks_of 6 1 0 0 ≡ call (op.Free 1) (one 0)
  pub print : marks_of 7 9 0 0 ≡ call (op.Print 9) nothing
