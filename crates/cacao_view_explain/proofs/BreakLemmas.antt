-- What is told of a break, from its parts.
use Rattle.std.proofs.Common.{◌≡◌, ◌∙◌, inl, inr, refl, true, ap, ℕ, List, [], ◌∷◌, ◌++◌, map, append_assoc, Option, Some}
use Rattle.std.specs.Prelude.{option_map, slice_get}
use Rattle.std.proofs.lemmas.Option.{slice_get-map}
use Rattle.serde_json.specs.Data.{Data}
use Rattle.cacao_check.specs.declared.breaks.Break.{Break}
use Rattle.cacao_cli_ends.specs.Files.{NamedText}
use Rattle.cacao_view_words.specs.Rules.{book_lines}
use Rattle.cacao_view_words.specs.Texts.{Text}
use Rattle.cacao_view_faults.specs.Stands.{LeadsOn, WordStands, stands}
use Rattle.cacao_view_explain.specs.Lines.{BeginsWithName, TellsPart, pointer_line, step_lines, step_pointer, text_line, told_line}
use Rattle.cacao_view_explain.specs.Naming.{SaysOfNames}
use Rattle.cacao_view_explain.specs.Tells.{TellsBroken, TellsFault}

pub tells_fault : (text : NamedText) (root : Data) (step : Option Text) (what path part : Text) (steps lines : List Text) → steps ≡ step_lines step root → LeadsOn text.bytes (step_pointer step) path
    → TellsPart text path what part → lines ≡ (steps ++ pointer_line path ∷ []) ++ part ∷ [] → TellsFault text root step what lines
tells_fault text root step what path part steps lines steps_are leads tells are = record {
  path = path;
  leads = leads;
  part = part;
  tells = tells;
  are = are ∙ append_assoc steps (pointer_line path ∷ []) (part ∷ []) ∙ ap (λ (l : List Text). l ++ (pointer_line path ∷ part ∷ [])) steps_are;
}

-- the value stands there, and the line tells where it begins
pub tells_value : (text : NamedText) (path : Text) (from end : ℕ) (what line : Text) → stands text.bytes path from end ≡ true → line ≡ told_line text from what → TellsPart text path what line
tells_value text path from end what line there is = inl (record { from = from; end = end; it_stands = there; at = from; there = inl refl; is = is })

-- the words begin with a name, and the line tells where it stands in that value
pub tells_name : (text : NamedText) (path : Text) (from end at : ℕ) (name what line : Text) → stands text.bytes path from end ≡ true → BeginsWithName what name → WordStands text.bytes from end at name
    → line ≡ told_line text at what → TellsPart text path what line
tells_name text path from end at name what line there begins here is =
    inl (record { from = from; end = end; it_stands = there; at = at; there = inr (record { name = name; begins = begins; there = here }); is = is })

-- no place is told
pub tells_text : (text : NamedText) (path what line : Text) → line ≡ text_line text.name what → TellsPart text path what line
tells_text text path what line is = inr is

-- what is made of the item at a place
pub mapped_at : {A B : Type 0} (f : A → B) (xs : List A) (n : ℕ) (x : A) → slice_get xs n ≡ Some x → slice_get (map f xs) n ≡ Some (f x)
mapped_at f xs n x e = slice_get-map f xs n ∙ ap (option_map f) e

pub tells_broken : (texts : List NamedText) (roots : List Data) (broken : Break) (text : NamedText) (root : Data) (what : Text) (fault lines : List Text) → slice_get texts broken.book ≡ Some text
    → slice_get roots broken.book ≡ Some root → SaysOfNames root broken what → TellsFault text root broken.step what fault → lines ≡ fault ++ book_lines broken.rule → TellsBroken texts roots broken lines
tells_broken texts roots broken text root what fault lines text_is root_is says tells are =
    record { text = text; text_is = text_is; root = root; root_is = root_is; what = what; says = says; fault = fault; tells = tells; are = are }
