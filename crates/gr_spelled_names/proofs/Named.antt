-- The names of the objects of a program that a text spells.
use Rattle.std.proofs.Common.{◌≡◌, ◌≤◌, List, [], ◌∷◌, ◌++◌, All, true, length, refl}
use Rattle.std.proofs.lemmas.List.Elements.{All-nil, All-cons}
use Rattle.gr_meets.specs.Lists.{Repeated}
use Rattle.gr_syntax.specs.declared.limits.TheConstants.{MAX_NAME}
use Rattle.gr_syntax.specs.declared.syntax.Item.{Item}
use Rattle.gr_syntax.specs.declared.syntax.Name.{Name}
use Rattle.gr_syntax.specs.Items.{object_names}
use Rattle.gr_syntax.specs.Names.{is_name}
use Rattle.gr_text.specs.declared.token.TokenKind.TheVariants as kinds
use Rattle.gr_text.specs.Text.{IsToken}
use Rattle.gr_text.proofs.Named.{named_token}
use Rattle.gr_expressions.specs.Tok.{Toks}
use Rattle.gr_parse.specs.Grammar.{IsItem, IsProgram}
use Rattle.gr_print.specs.Printed.{AreWritten}
use Rattle.gr_print.proofs.Spellings.{text_spells}
use Rattle.gr_spelled_names.specs.Laws as laws

abbrev AreNames : List Item → Type 0
AreNames items = All (λ name. is_name name ≡ true) (object_names items)

written_front : (front back : Toks) → AreWritten (front ++ back) → AreWritten front
written_front [] back written = tt
written_front (tok ∷ front) back written = (written.0, written_front front back written.1)

written_back : (front back : Toks) → AreWritten (front ++ back) → AreWritten back
written_back [] back written = written
written_back (tok ∷ front) back written = written_back front back written.1

and_name : (name : Name) (items : List Item) → IsToken kinds.Name name.text × (length name.text ≤ MAX_NAME) → AreNames items
    → All (λ text. is_name text ≡ true) (name.text ∷ object_names items)
and_name name items written more =
    All-cons (λ text. is_name text ≡ true) name.text (object_names items) (named_token name.text written.0 written.1) more

-- The object of an item, if it has one, is named by the second token.
item_named : (front : Toks) (item : Item) (items : List Item) → IsItem front item → AreWritten front → AreNames items → AreNames (item ∷ items)
item_named _ _ items (IsItem.array {name} {size}) written more = and_name name items written.1.0 more
item_named _ _ items (IsItem.set {name}) written more = and_name name items written.1.0 more
item_named _ _ items (IsItem.map {name}) written more = and_name name items written.1.0 more
item_named _ _ items (IsItem.vector {name}) written more = and_name name items written.1.0 more
item_named _ _ items (IsItem.heap {at} {size}) written more = more
item_named _ _ items (IsItem.show {name}) written more = more
item_named _ _ items (IsItem.input {name} {inside} {values} spelled) written more = more
item_named _ _ items (IsItem.task {name} {front} {inside} {params} {body} spelled block) written more = more

items_named : (tokens : Toks) (items : List Item) → IsProgram tokens items → AreWritten tokens → AreNames items
items_named _ _ Repeated.none written = All-nil (λ text. is_name text ≡ true)
items_named _ _ (Repeated.one_more {front} {back} {first} {others} one more) written =
    item_named front first others one (written_front front back written) (items_named back others more (written_back front back written))

pub objects_named : laws.SpelledObjectsHaveNames
objects_named text tokens program reads found =
    items_named _ program.items found.spelled (text_spells text tokens program program reads found refl).written
