-- Where the unit of a new task goes: last among the core's own or the public units, or to another core.
use Rattle.std.proofs.Common.{◌≡◌, ℕ, ◌+◌, ◌<◌, ◌==◌, Bool, true, false, if◌then◌else◌, List, [], ◌∷◌, ◌++◌, sym, ◌∙◌, ap, refl, arith, nat_lt}
use Rattle.std.proofs.lemmas.Bool.Decides.{nat_tests}
use Rattle.gr_lang.specs.declared.action.How.{How}
use Rattle.gr_lang.specs.declared.action.How.TheVariants as how
use Rattle.gr_lang.specs.Steps.{has_core}
use Rattle.gr_msg.specs.declared.message.ScopeId.{ScopeId}
use Rattle.gr_msg.specs.declared.message.Msg.TheVariants as msg
use Rattle.gr_msg.specs.declared.message.Unit.{Unit as WorkUnit}
use Rattle.gr_net.specs.Sums.{weigh, Each}
use Rattle.gr_net.proofs.Spreads.{weigh-append, Each-append}
use Rattle.gr_machine.specs.States.{Body}
use Rattle.gr_machine.specs.Outcomes.{Outcome, Send, to, quietly}
use Rattle.gr_machine.specs.Spawns.{private_last, placed}
use Rattle.gr_stands.specs.Worlds.{Given, of_sends}
use Rattle.gr_stands.specs.Censuses.{carried}
use Rattle.gr_scopes.specs.Trees.{Tree, Names}
use Rattle.gr_scopes.specs.Sums.{completes, leaves, acks, enrolments}
use Rattle.gr_scopes.specs.Scopes.{UnitStands, MessageStands}

-- The unit is in a queue of the body afterwards, or is sent; nothing else changes.
pub record Placing (given : Given) (names : Names) (tree : Tree) (me : ℕ) (b : Body) (way : How) (u : WorkUnit) (o : Outcome) : Type 0 where
  pub tasks : o.body.tasks ≡ b.tasks
  pub scopes : o.body.scopes ≡ b.scopes
  pub stops : o.body.stops ≡ b.stops
  pub units : (h : WorkUnit → ℕ) → weigh h o.body.work.private + weigh h o.body.work.public + of_sends (carried h) me o.sends ≡ weigh h b.work.private + weigh h b.work.public + h u
  pub calm : (q : ScopeId) (i : ℕ) → of_sends (completes q i) me o.sends + of_sends (leaves q) me o.sends + of_sends (acks q) me o.sends + of_sends (enrolments q i) me o.sends ≡ 0
  pub private : Each (UnitStands given names tree) b.work.private → UnitStands given names tree u → Each (UnitStands given names tree) o.body.work.private
  pub public : Each (UnitStands given names tree) b.work.public → UnitStands given names tree u → Each (UnitStands given names tree) o.body.work.public
  pub sends : UnitStands given names tree u → Each (λ (y : Send). MessageStands given names tree me y.to y.message) o.sends
  pub low : has_core given.setup.cores way ≡ true → Each (λ (y : Send). y.to < given.setup.cores) o.sends

module _ (given : Given) (names : Names) (tree : Tree) (me : ℕ) (b : Body) (u : WorkUnit) where
  privately : (way : How) → Placing given names tree me b way u (quietly (private_last b u))
  privately way = record {
    tasks = refl;
    scopes = refl;
    stops = refl;
    units = λ h. omega (arith, weigh-append h b.work.private (u ∷ []));
    calm = λ q i. refl;
    private = λ f g. Each-append (UnitStands given names tree) b.work.private (u ∷ []) f (g, tt);
    public = λ f g. f;
    sends = λ g. tt;
    low = λ e. tt;
  }

  pub places : (way : How) → Placing given names tree me b way u (placed me b way u)
  places how.Here = privately how.Here
  places (how.At core) = go (core == me)
    where
      lower : (i j : ℕ) → nat_lt i j ≡ true → i < j
      lower i j e = grind (arith, nat_tests, e)

      go : (x : Bool) → Placing given names tree me b (how.At core) u (if x then quietly (private_last b u) else record { body = b; sends = to core (msg.Spawn u); marks = [] })
      go true = privately (how.At core)
      go false = record {
        tasks = refl;
        scopes = refl;
        stops = refl;
        units = λ h. omega arith;
        calm = λ q i. refl;
        private = λ f g. f;
        public = λ f g. f;
        sends = λ g. (g, tt);
        low = λ e. (lower core given.setup.cores e, tt);
      }
  places how.Offer = record {
    tasks = refl;
    scopes = refl;
    stops = refl;
    units = λ h. omega (arith, weigh-append h b.work.public (u ∷ []));
    calm = λ q i. refl;
    private = λ f g. f;
    public = λ f g. Each-append (UnitStands given names tree) b.work.public (u ∷ []) f (g, tt);
    sends = λ g. tt;
    low = λ e. tt;
  }
