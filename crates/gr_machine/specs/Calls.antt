-- Run: a ready task makes a call. A call of a word, of the heap or a print is asked of a core; every other call joins the calls that wait to be combined.
use Rattle.std.specs.Prelude.{ℕ, Bool, true, false, nat_lt, if◌then◌else◌, [], ◌∷◌, ◌++◌, Option, Some, None}
use Rattle.gr_lang.specs.declared.action.Op.{Op}
use Rattle.gr_lang.specs.declared.action.Op.TheVariants as op
use Rattle.gr_lang.specs.declared.action.WaitingCall.{WaitingCall}
use Rattle.gr_lang.specs.Objects.{Object, keys, pairs, address}
use Rattle.gr_view.specs.Places.{put}
use Rattle.gr_msg.specs.declared.message.Msg.TheVariants as msg
use Rattle.gr_machine.specs.Machines.{Machine, home, thing}
use Rattle.gr_machine.specs.declared.waits.Waits.TheVariants as wait
use Rattle.gr_machine.specs.States.{Suspended, Vector, Body}
use Rattle.gr_machine.specs.Outcomes.{Outcome, to, quietly}
use Rattle.gr_machine.specs.Slots.{waiting, dropped}

-- Words, the heap and prints

-- The call of this number is asked of a core, and the task waits for the reply.
abbrev pub call_asked : Body → ℕ → Suspended → ℕ → ℕ → ℕ → ℕ → ℕ → Outcome
call_asked body slot task core operation x y z = record {
  body = waiting body slot task wait.Reply;
  sends = to core (msg.Request slot task.id operation x y z);
  marks = [];
}

-- A call on a word is asked of the word's home, where there is an address.
abbrev pub word_asked : Machine → Body → ℕ → Suspended → ℕ → ℕ → ℕ → Option ℕ → Outcome
word_asked machine body slot task operation y z None = dropped body slot
word_asked machine body slot task operation y z (Some at) = call_asked body slot task (home machine at) operation at y z

-- Reduces, sets and maps

abbrev pub waiting_call : ℕ → Suspended → Op → WaitingCall
waiting_call slot task call = record { slot = slot; id = task.id; op = call }

-- A call on a key joins the calls that wait on its object, the last. The key of a reduce is the address of its word.
abbrev pub joins : Body → ℕ → Suspended → Op → ℕ → ℕ → Outcome
joins body slot task call object key = quietly (record (waiting body slot task (wait.Close object)) {
  batches = record body.batches {
    combiners = put body.batches.combiners object (body.batches.combiners object ++ record { key = key; call = waiting_call slot task call } ∷ []);
  };
})

-- Whether there is a reducer of this number.
abbrev pub is_reducer : ℕ → Bool
is_reducer number = nat_lt number 8

-- Whether a call on a key is one of what the object is: a set's of a set, a map's of a map, with a reducer that there is.
abbrev pub is_keyed : Op → Option Object → Bool
is_keyed (op.Insert object key) (Some (keys held)) = true
is_keyed (op.Remove object key) (Some (keys held)) = true
is_keyed (op.Has object key) (Some (keys held)) = true
is_keyed (op.Put object key word) (Some (pairs held)) = true
is_keyed (op.Get object key) (Some (pairs held)) = true
is_keyed (op.Erase object key) (Some (pairs held)) = true
is_keyed (op.Merge object reducer key word) (Some (pairs held)) = is_reducer reducer
is_keyed _ _ = false

abbrev pub key_joins : Machine → Body → ℕ → Suspended → Op → ℕ → ℕ → Outcome
key_joins machine body slot task call object key = if is_keyed call (thing machine object) then joins body slot task call object key else dropped body slot

abbrev pub reduce_joins : Body → ℕ → Suspended → Op → ℕ → Bool → Option ℕ → Outcome
reduce_joins body slot task call object true (Some at) = joins body slot task call object at
reduce_joins body slot task call object _ _ = dropped body slot

-- Vectors

-- A call on a vector joins the calls that wait on it, the last, where there is such a vector.
abbrev pub vector_joins : Body → ℕ → Suspended → Op → ℕ → Option Vector → Outcome
vector_joins body slot task call object None = dropped body slot
vector_joins body slot task call object (Some vector) = quietly (record (waiting body slot task (wait.Close object)) {
  vectors = record body.vectors {
    vectors = put body.vectors.vectors object (Some (record vector { combiner = vector.combiner ++ waiting_call slot task call ∷ [] }));
  };
})

-- Each call. Requests number the calls that are asked: 1 read, 2 write, 3 add, 4 cas, 5 alloc, 6 free, 7 print.
abbrev pub called : Machine → Body → ℕ → Suspended → Op → Outcome
called machine body slot task (op.Read object place) = word_asked machine body slot task 1 0 0 (address machine.code.objects object place)
called machine body slot task (op.Write object place word) = word_asked machine body slot task 2 word 0 (address machine.code.objects object place)
called machine body slot task (op.Add object place word) = word_asked machine body slot task 3 word 0 (address machine.code.objects object place)
called machine body slot task (op.Cas object place old new) = word_asked machine body slot task 4 old new (address machine.code.objects object place)
called machine body slot task (op.Reduce object reducer place word) =
    reduce_joins body slot task (op.Reduce object reducer place word) object (is_reducer reducer) (address machine.code.objects object place)
called machine body slot task (op.Insert object key) = key_joins machine body slot task (op.Insert object key) object key
called machine body slot task (op.Remove object key) = key_joins machine body slot task (op.Remove object key) object key
called machine body slot task (op.Has object key) = key_joins machine body slot task (op.Has object key) object key
called machine body slot task (op.Put object key word) = key_joins machine body slot task (op.Put object key word) object key
called machine body slot task (op.Get object key) = key_joins machine body slot task (op.Get object key) object key
called machine body slot task (op.Erase object key) = key_joins machine body slot task (op.Erase object key) object key
called machine body slot task (op.Merge object reducer key word) = key_joins machine body slot task (op.Merge object reducer key word) object key
called machine body slot task (op.Push object word) = vector_joins body slot task (op.Push object word) object (body.vectors.vectors object)
called machine body slot task (op.Pop object) = vector_joins body slot task (op.Pop object) object (body.vectors.vectors object)
called machine body slot task (op.Dequeue object) = vector_joins body slot task (op.Dequeue object) object (body.vectors.vectors object)
called machine body slot task (op.Alloc count) = call_asked body slot task 0 5 count 0 0
called machine body slot task (op.Free place) = call_asked body slot task 0 6 place 0 0
called machine body slot task (op.Print word) = call_asked body slot task 0 7 word 0 0
