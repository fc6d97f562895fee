-- What is accepted is accepted again by its canonical texts.
use Rattle.std.proofs.Common.{◌≡◌, ◌∙◌, refl, sym, ap, subst, ℕ, zero, suc, ◌≤◌, Bool, true, false, List, [], ◌∷◌, map, Option, Some, None, codes, Ordering, Less, Equal, Greater}
use Rattle.std.specs.Prelude.{IfSome, option_map, slice_get, if◌then◌else◌}
use Rattle.std.specs.Ordering.{nat_cmp, match_ordering}
use Rattle.std.specs.Cmp.Lexicographic.{slice_cmp}
use Rattle.std.proofs.lemmas.Bool.{true≢false}
use Rattle.std.proofs.lemmas.Map.Lookups.{exact_bytes}
use Rattle.std.specs.Str.{bytes_eq}
use Rattle.std.proofs.lemmas.List.{length-map}
use Rattle.serde_json.specs.Data.{Data, null, boolean, number, string, array, object, Members, no_members, member}
use Rattle.serde_json.specs.Find.{get, get_member}
use Rattle.cacao_json.specs.Reading.{tree}
use Rattle.std.specs.Str.{is_utf8, chars}
use Rattle.json.specs.Json.{value as json_value}
use Rattle.json.specs.Lex.{punctuate, lex}
use Rattle.cacao_json.specs.Tree.{without}
use Rattle.cacao_json.specs.Profile.{IsTree}
use Rattle.cacao_text.specs.Canon.{canon, unsigned_of, book_text}
use Rattle.cacao_text.specs.Laws.{TextsHaveTrees, ReadsBack, BookReadsBack, BookIsFixed}
use Rattle.cacao_vars.specs.declared.declarations.Var.{Var}
use Rattle.cacao_book.specs.declared.books.Book.{Book}
use Rattle.cacao_book_shape.specs.Members.{IsObject}
use Rattle.cacao_book_shape.specs.Shape.{ShapeDemand, ShapeRule, k1, k2, k3, k4, k5, k6, k7, k8, k9, k10, k11, k12, K1, K2, K3, K4, KeepsShape, KeepsShapeAt, KeepsOfBook, KeepsOfStep, workflow}
use Rattle.cacao_book.specs.Books.{book}
use Rattle.cacao_check.specs.declared.breaks.Mode.TheVariants.{Run}
use Rattle.cacao_check.specs.Fits.{FitsKind}
use Rattle.cacao_check.specs.Sense.{KeepsSense}
use Rattle.cacao_check.specs.FirstBreak.{Keeps, Demand, of_shape, of_sense}
use Rattle.flow_core_rules.specs.Bindings.{bindings_of, bind_text, KeepsBind}
use Rattle.flow_core_rules.specs.Givens.{Given}
use Rattle.flow_core_rules.specs.Accepted.{Accepted, given_of, first_variables}
use Rattle.flow_core_setup.specs.Setups.{AreAccepted}
use Rattle.flow_core_setup.specs.SetupLaws.{AcceptedAgain}

-- ---- members of a playbook without its signatures

-- the name is another than that of the signatures
IsOther : List ℕ → Type 0
IsOther name = bytes_eq (codes "signatures") name ≡ false

same_text : (a b : List ℕ) → slice_cmp nat_cmp a b ≡ Equal → a ≡ b
same_text a b e = exact_bytes a b e

one_without : (name k : List ℕ) (d : Data) (ms rest : Members) → IsOther name → get_member name rest ≡ get_member name ms → (b : Bool) (o : Ordering) → bytes_eq (codes "signatures") k ≡ b → slice_cmp nat_cmp name k ≡ o
    → get_member name (if b then rest else member k d rest) ≡ match_ordering (slice_cmp nat_cmp name k) (get_member name ms) (Some d) (get_member name ms)
unfolding IsOther
one_without name k d ms rest other same true Less is at = same ∙ ap (λ (o : Ordering). match_ordering o (get_member name ms) (Some d) (get_member name ms)) (sym at)
one_without name k d ms rest other same true Greater is at = same ∙ ap (λ (o : Ordering). match_ordering o (get_member name ms) (Some d) (get_member name ms)) (sym at)
one_without name k d ms rest other same true Equal is at = absurd (true≢false (sym is ∙ ap (bytes_eq (codes "signatures")) (sym (same_text name k at)) ∙ other))
one_without name k d ms rest other same false o is at = ap (λ (found : Option Data). match_ordering (slice_cmp nat_cmp name k) found (Some d) found) same

get_without : (name : List ℕ) (ms : Members) → IsOther name → get_member name (without (codes "signatures") ms) ≡ get_member name ms
unfolding IsOther
get_without name no_members other = refl
get_without name (member k d ms) other =
    one_without name k d ms (without (codes "signatures") ms) other (get_without name ms other) (bytes_eq (codes "signatures") k) (slice_cmp nat_cmp name k) refl refl

pub get_unsigned : (t : Data) (name : List ℕ) → bytes_eq (codes "signatures") name ≡ false → get name (unsigned_of t) ≡ get name t
unfolding IsOther
get_unsigned null name other = refl
get_unsigned (boolean b) name other = refl
get_unsigned (number n) name other = refl
get_unsigned (string s) name other = refl
get_unsigned (array ds) name other = refl
get_unsigned (object ms) name other = get_without name ms other

object_unsigned : (t : Data) → IsObject t → IsObject (unsigned_of t)
object_unsigned null h = h
object_unsigned (boolean b) h = h
object_unsigned (number n) h = h
object_unsigned (string s) h = h
object_unsigned (array ds) h = h
object_unsigned (object ms) h = refl

-- ---- the playbook is the same

pub book_unsigned : (t : Data) → book (unsigned_of t) ≡ book t
book_unsigned t =
    rw (get_unsigned t (codes "id") refl)
    rw (get_unsigned t (codes "modified") refl)
    rw (get_unsigned t (codes "workflow_start") refl)
    rw (get_unsigned t (codes "workflow_exception") refl)
    rw (get_unsigned t (codes "playbook_variables") refl)
    rw (get_unsigned t (codes "agent_definitions") refl)
    rw (get_unsigned t (codes "target_definitions") refl)
    rw (get_unsigned t (codes "workflow") refl)
    refl

workflow_unsigned : (t : Data) → workflow (unsigned_of t) ≡ workflow t
workflow_unsigned t = rw (get_unsigned t (codes "workflow") refl) refl

k1_unsigned : (t : Data) → K1 t → K1 (unsigned_of t)
k1_unsigned t h =
    rw (get_unsigned t (codes "type") refl)
    rw (get_unsigned t (codes "spec_version") refl)
    (object_unsigned t h.0, h.1, h.2)

k2_unsigned : (t : Data) → K2 t → K2 (unsigned_of t)
k2_unsigned t h =
    rw (get_unsigned t (codes "id") refl)
    rw (get_unsigned t (codes "created_by") refl)
    rw (get_unsigned t (codes "created") refl)
    rw (get_unsigned t (codes "modified") refl)
    rw (get_unsigned t (codes "name") refl)
    h

k3_unsigned : (t : Data) → K3 t → K3 (unsigned_of t)
k3_unsigned t h =
    rw (get_unsigned t (codes "playbook_variables") refl)
    rw (get_unsigned t (codes "agent_definitions") refl)
    rw (get_unsigned t (codes "target_definitions") refl)
    h

k4_unsigned : (t : Data) → K4 t → K4 (unsigned_of t)
k4_unsigned t h =
    rw (get_unsigned t (codes "workflow_start") refl)
    rw (get_unsigned t (codes "workflow_exception") refl)
    rw (get_unsigned t (codes "workflow") refl)
    h

book_rules_unsigned : (t : Data) (rule : ShapeRule) → KeepsOfBook rule t → KeepsOfBook rule (unsigned_of t)
book_rules_unsigned t k1 h = k1_unsigned t h
book_rules_unsigned t k2 h = k2_unsigned t h
book_rules_unsigned t k3 h = k3_unsigned t h
book_rules_unsigned t k4 h = k4_unsigned t h
book_rules_unsigned t k5 h = tt
book_rules_unsigned t k6 h = tt
book_rules_unsigned t k7 h = tt
book_rules_unsigned t k8 h = tt
book_rules_unsigned t k9 h = tt
book_rules_unsigned t k10 h = tt
book_rules_unsigned t k11 h = tt
book_rules_unsigned t k12 h = tt

shape_at_unsigned : (t : Data) (rule : ShapeRule) (step : Option ℕ) → KeepsShapeAt t rule step → KeepsShapeAt (unsigned_of t) rule step
shape_at_unsigned t rule None h = book_rules_unsigned t rule h
shape_at_unsigned t rule (Some place) h = subst (λ (ms : List (List ℕ × Data)). IfSome (slice_get ms place) (λ step. KeepsOfStep rule step.1)) (sym (workflow_unsigned t)) h

-- ---- the trees

books_unsigned : (trees : List Data) → map book (map unsigned_of trees) ≡ map book trees
books_unsigned [] = refl
books_unsigned (t ∷ trees) = ap (λ (b : Book). b ∷ map book (map unsigned_of trees)) (book_unsigned t) ∙ ap (λ (bs : List Book). book t ∷ bs) (books_unsigned trees)

shapes_unsigned : (trees : List Data) (n : ℕ) (demand : ShapeDemand) → IfSome (slice_get trees n) (λ t. KeepsShape t demand) → IfSome (slice_get (map unsigned_of trees) n) (λ t. KeepsShape t demand)
shapes_unsigned [] n demand h = tt
shapes_unsigned (t ∷ trees) zero demand h = shape_at_unsigned t demand.rule demand.step h
shapes_unsigned (t ∷ trees) (suc n) demand h = shapes_unsigned trees n demand h

keeps_unsigned : (trees : List Data) (demand : Demand) → Keeps trees Run demand → Keeps (map unsigned_of trees) Run demand
keeps_unsigned trees (of_shape n demand) h = shapes_unsigned trees n demand h
keeps_unsigned trees (of_sense demand) h = subst (λ (bs : List Book). KeepsSense bs Run demand) (sym (books_unsigned trees)) h

accepted_unsigned : (trees : List Data) → AreAccepted trees → AreAccepted (map unsigned_of trees)
accepted_unsigned trees h = (subst (λ n. 1 ≤ n) (sym (length-map trees unsigned_of)) h.0, λ demand. keeps_unsigned trees demand (h.1 demand))

variables_unsigned : (trees : List Data) → first_variables (map unsigned_of trees) ≡ first_variables trees
variables_unsigned [] = refl
variables_unsigned (t ∷ trees) = ap (λ (b : Book). b.variables) (book_unsigned t)

-- each of the texts has its tree
pub AreTrees : List (List ℕ) → List Data → Type 0
AreTrees texts trees = map tree texts ≡ map (λ t. Some t) trees

trees_again : TextsHaveTrees → BookReadsBack → (texts : List (List ℕ)) (trees : List Data) → AreTrees texts trees → AreTrees (map book_text trees) (map unsigned_of trees)
unfolding AreTrees
trees_again have back texts [] e = refl
trees_again have back [] (t ∷ trees) e = absurd (cc)
trees_again have back (text ∷ texts) (t ∷ trees) e =
    let here : tree text ≡ Some t = cc in
    let rest : map tree texts ≡ map (λ t. Some t) trees = cc in
    ap (λ (o : Option Data). o ∷ map tree (map book_text trees)) (back t (have text t here)) ∙ ap (λ (os : List (Option Data)). Some (unsigned_of t) ∷ os) (trees_again have back texts trees rest)

texts_again : TextsHaveTrees → BookReadsBack → BookIsFixed → (texts : List (List ℕ)) (trees : List Data) → AreTrees texts trees → map book_text (map unsigned_of trees) ≡ map book_text trees
unfolding AreTrees
texts_again have back fixed texts [] e = refl
texts_again have back fixed [] (t ∷ trees) e = absurd (cc)
texts_again have back fixed (text ∷ texts) (t ∷ trees) e =
    let here : tree text ≡ Some t = cc in
    let rest : map tree texts ≡ map (λ t. Some t) trees = cc in
    let is : IsTree t = have text t here in
    let same : Some (book_text (unsigned_of t)) ≡ Some (book_text t) = ap (option_map book_text) (sym (back t is)) ∙ fixed t is in
    let one : book_text (unsigned_of t) ≡ book_text t = cc in
    ap (λ (b : List ℕ). b ∷ map book_text (map unsigned_of trees)) one ∙ ap (λ (bs : List (List ℕ)). book_text t ∷ bs) (texts_again have back fixed texts trees rest)

-- ---- the bindings

none≢some : (d : Data) → None ≡ Some d → ⊥
none≢some d e = cc

no_tree : tree [] ≡ None
unfolding is_utf8 chars lex punctuate json_value
no_tree = refl

not_empty : (d : Data) (P : List ℕ → Type 0) → ((b : ℕ) (bytes : List ℕ) → canon d ≡ b ∷ bytes → P (b ∷ bytes)) → tree (canon d) ≡ Some d → P (canon d)
not_empty d P f back = go (canon d) refl
  where
    go : (text : List ℕ) → canon d ≡ text → P text
    go [] e = absurd (none≢some d (sym no_tree ∙ ap tree (sym e) ∙ back))
    go (b ∷ bytes) e = f b bytes e

bindings_again : TextsHaveTrees → ReadsBack → (bind : List ℕ) (d : Data) → bindings_of bind ≡ Some d → bindings_of (bind_text bind d) ≡ Some d
bindings_again have back [] d e = e
bindings_again have back (b ∷ bytes) d e =
    let is : tree (canon d) ≡ Some d = back d (have (b ∷ bytes) d e) in
    not_empty d (λ text. bindings_of text ≡ Some d) (λ c cs same. ap tree (sym same) ∙ is) is

bind_again : TextsHaveTrees → ReadsBack → (bind : List ℕ) (d : Data) → bindings_of bind ≡ Some d → bind_text (bind_text bind d) d ≡ bind_text bind d
bind_again have back [] d e = refl
bind_again have back (b ∷ bytes) d e =
    let is : tree (canon d) ≡ Some d = back d (have (b ∷ bytes) d e) in
    not_empty d (λ text. bind_text text d ≡ text) (λ c cs same. same) is

-- ---- what is given

given_again : TextsHaveTrees → ReadsBack → BookReadsBack → BookIsFixed → (texts : List (List ℕ)) (trees : List Data) (bind : List ℕ) (d : Data) → AreTrees texts trees → bindings_of bind ≡ Some d
    → given_of trees bind d ≡ given_of (map unsigned_of trees) (bind_text bind d) d
given_again have back book_back fixed texts trees bind d are is =
    rw (books_unsigned trees) rw (texts_again have book_back fixed texts trees are) rw (bind_again have back bind d is) refl

pub accepted_again : TextsHaveTrees → ReadsBack → BookReadsBack → BookIsFixed → AcceptedAgain
unfolding AreTrees
accepted_again have back book_back fixed texts bind given h =
    subst (λ (g : Given). Accepted AreAccepted FitsKind g.texts g.bind g) (sym h.given_is) (record {
      trees = map unsigned_of h.trees;
      bindings = h.bindings;
      trees_are = trees_again have book_back texts h.trees h.trees_are;
      bindings_are = bindings_again have back bind h.bindings h.bindings_are;
      few = subst (λ n. n ≤ 16) (sym (length-map h.trees unsigned_of)) h.few;
      accepted = accepted_unsigned h.trees h.accepted;
      bound = λ rule. subst (λ (vars : List Var). KeepsBind FitsKind vars h.bindings rule) (sym (variables_unsigned h.trees)) (h.bound rule);
      given_is = given_again have back book_back fixed texts h.trees bind h.bindings h.trees_are h.bindings_are;
    })
