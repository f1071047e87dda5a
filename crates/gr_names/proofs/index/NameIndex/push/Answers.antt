use Rattle.std.proofs.Common.{rules, ℕ, List, [], ◌∷◌, ◌++◌, map, sym, ap, ◌∙◌, Bor}
use Rattle.std.proofs.lemmas.List.{length-map, map-append}
use Rattle.gr_names.proofs.Places.{HasPlaces-push}
use Rattle.gr_names.proofs.index.NameIndex.push.Goals as goal

pub invariant_of-self-in-Ok : goal.invariant_of-self-in-Ok
invariant_of-self-in-Ok c =
    let text = λ (name : Bor (List ℕ)). name.now in
    let names = c.self.inside.names.items in
    record {
      places = HasPlaces-push
          c.self.inside.places
          c.note.new.places
          (map text names)
          (map text c.push.new.self.items)
          c.as_str.result.now
          c.len-place.result
          c.self.invariant.places
          c.in-Ok.ensures.ok
          (search (rules, length-map))
          (ap (map text) c.in_ok-push.ensures.items ∙ map-append text names (c.args.name ∷ []) ∙ ap (λ (last : List ℕ). map text names ++ last ∷ []) (sym c.as_str.ensures));
    }
