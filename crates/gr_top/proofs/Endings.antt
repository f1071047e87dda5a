-- What is told of a run is what is due of how it ended.
use Rattle.std.proofs.Common.{◌≡◌, ℕ, List, ◌++◌, Some, ap, ◌∙◌, append_assoc, is_some}
use Rattle.gr_syntax.specs.declared.syntax.Program.{Program}
use Rattle.gr_cli.specs.declared.settings.Options.{Options}
use Rattle.gr_cli.specs.Options.{IsWithinLimits}
use Rattle.gr_posts.specs.Posts.{IsSetup}
use Rattle.gr_report.specs.Showing.{shown_text}
use Rattle.gr_report.specs.Ends.{limit_text}
use Rattle.gr_report.specs.Texts.{prints, trap_text}
use Rattle.gr_report.specs.declared.ends.LimitAt.{LimitAt}
use Rattle.gr_report.specs.declared.texts.TrapAt.{TrapAt}
use Rattle.gr_engine.specs.declared.ending.Ending.{Ending}
use Rattle.gr_engine.specs.declared.ending.Ending.TheVariants as ending
use Rattle.gr_engine.specs.declared.ending.WorldEnd.{WorldEnd}
use Rattle.gr_engine.specs.Ends.{Ended, IsEnding, complete, limited, stalled, trapped}
use Rattle.gr_top.specs.Due.{Due, counted, due_ended, told}
use Rattle.gr_top.specs.Commands.{setup_of}
use Rattle.gr_top.specs.AnswerView.{made, refusal_at, text_at}
use Rattle.gr_top.specs.declared.answer.Answer.{Answer}
use Rattle.gr_top.specs.declared.answer.Refusal.TheVariants as r

pub setup_within : (o : Options) → IsWithinLimits o → IsSetup (setup_of o)
setup_within o w = record {
  core = w.few_cores.0;
  cores = w.few_cores.1;
  word = w.short_block.0;
  block = w.short_block.1;
  message = w.low_limit.0;
  limit = w.low_limit.1;
  events = w.few_events.1;
}

-- Prints, lines, the history text and the counts, one after another.
in_order : (a b c d : List ℕ) → (a ++ b) ++ (c ++ d) ≡ a ++ (b ++ (c ++ d))
in_order a b c d = append_assoc a b (c ++ d)

due_of : (a : Answer) (d : Due) → a.refusal ≡ d.refusal → a.text.items ≡ d.text → is_some a.world ≡ d.ran → made a ≡ d
due_of a d x y z = λ i. record { refusal = x i; text = y i; ran = z i }

module _ (o : Options) (p : Program) (w : WorldEnd) (a : Answer) (kept : a.world ≡ Some w) (more : List ℕ) (asked : more ≡ told o.history p o.cores o.steps w.history ++ counted o.counts w.cores) where
  -- The lines that tell how the run ended, and what is asked for besides.
  ends_with : (lines : List ℕ) → (prints w.history ++ lines) ++ more ≡ prints w.history ++ (lines ++ (told o.history p o.cores o.steps w.history ++ counted o.counts w.cores))
  ends_with lines = append_assoc (prints w.history) lines more ∙ ap (λ (rest : List ℕ). prints w.history ++ (lines ++ rest)) asked

  by_ending : (how : Ending) (ended : Ended) → IsEnding how ended → a.refusal ≡ refusal_at how → a.text.items ≡ text_at p w.history how more → made a ≡ due_ended o p w ended
  by_ending (ending.Complete contents) (complete objects) e x y =
      due_of a (due_ended o p w (complete objects)) x (y ∙ ends_with (shown_text p contents) ∙ ap (λ held. prints w.history ++ (shown_text p held ++ (told o.history p o.cores o.steps w.history ++ counted o.counts w.cores))) e) (ap is_some kept)
  by_ending (ending.Trapped trap) (trapped first) e x y =
      due_of a (due_ended o p w (trapped first)) (x ∙ ap (λ (t : TrapAt). r.Trap t.kind t.task) e)
      (y ∙ ends_with (trap_text trap) ∙ ap (λ (t : TrapAt). prints w.history ++ (trap_text t ++ (told o.history p o.cores o.steps w.history ++ counted o.counts w.cores))) e) (ap is_some kept)
  by_ending (ending.Limited at) (limited first) e x y =
      due_of a (due_ended o p w (limited first)) (x ∙ ap (λ (t : LimitAt). r.EventLimit t.core t.clock) e)
      (y ∙ ends_with (limit_text at) ∙ ap (λ (t : LimitAt). prints w.history ++ (limit_text t ++ (told o.history p o.cores o.steps w.history ++ counted o.counts w.cores))) e) (ap is_some kept)
  by_ending ending.Stalled stalled e x y = due_of a (due_ended o p w stalled) x y (ap is_some kept)
  by_ending (ending.Complete contents) (trapped first) e x y = absurd e
  by_ending (ending.Complete contents) (limited first) e x y = absurd e
  by_ending (ending.Complete contents) stalled e x y = absurd e
  by_ending (ending.Trapped trap) (complete objects) e x y = absurd e
  by_ending (ending.Trapped trap) (limited first) e x y = absurd e
  by_ending (ending.Trapped trap) stalled e x y = absurd e
  by_ending (ending.Limited at) (complete objects) e x y = absurd e
  by_ending (ending.Limited at) (trapped first) e x y = absurd e
  by_ending (ending.Limited at) stalled e x y = absurd e
  by_ending ending.Stalled (complete objects) e x y = absurd e
  by_ending ending.Stalled (trapped first) e x y = absurd e
  by_ending ending.Stalled (limited first) e x y = absurd e

-- The answer is what is due of the run, where this is its refusal and its text.
pub made_ran : (o : Options) (p : Program) (w : WorldEnd) (a : Answer) (how : Ending) (ended : Ended) (more : List ℕ) → a.world ≡ Some w → IsEnding how ended → a.refusal ≡ refusal_at how
    → more ≡ told o.history p o.cores o.steps w.history ++ counted o.counts w.cores → a.text.items ≡ text_at p w.history how more → made a ≡ due_ended o p w ended
made_ran o p w a how ended more kept e x asked y = by_ending o p w a kept more asked how ended e x y
