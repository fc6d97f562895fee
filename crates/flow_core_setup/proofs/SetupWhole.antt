-- What is accepted is a setup.
use Rattle.std.proofs.Common.{◌≡◌, ◌∙◌, refl, sym, ap, subst, arith, ℕ, ◌≤◌, List, [], ◌∷◌, length, map, Some}
use Rattle.std.specs.List.{All, AllByRecursion}
use Rattle.std.specs.Prelude.{slice_get}
use Rattle.std.proofs.lemmas.List.{length-map}
use Rattle.std.proofs.lemmas.List.Elements.{All-from_recursion, recursion_from_All}
use Rattle.serde_json.specs.Data.{Data}
use Rattle.cacao_json.specs.Reading.{tree}
use Rattle.cacao_text.specs.Canon.{book_text}
use Rattle.cacao_text.specs.Laws.{IsNoLonger, BookIsNoLonger}
use Rattle.cacao_book.specs.declared.books.Book.{Book}
use Rattle.cacao_book.specs.Steps.{AreSteps}
use Rattle.cacao_book.specs.Books.{book}
use Rattle.cacao_check.specs.Fits.{FitsKind}
use Rattle.cacao_check.specs.Laws.{SoundGives}
use Rattle.flow_core_rules.specs.Givens.{Given}
use Rattle.cacao_vars.specs.declared.declarations.Var.{Var}
use Rattle.flow_core_rules.specs.Bindings.{bindings_of, bind_text, agents_in, variables_in, BindRule, KeepsBind}
use Rattle.flow_core_setup.specs.SetupGivens.{given_by, AreInOrder}
use Rattle.flow_core_setup.specs.SetupLaws.{AcceptedAgain}
use Rattle.flow_core_setup.proofs.SetupReasons.{count_trees, variables_are}
use Rattle.flow_core_rules.specs.Accepted.{Accepted, given_of}
use Rattle.flow_core_setup.specs.Setups.{AreAccepted, IsReadable, IsSetup}
use Rattle.flow_core_setup.specs.SetupReading.{AreTreesOf}
use Rattle.flow_core_setup.proofs.SetupRunnable.{accepted_is_runnable}

each_readable : IsNoLonger → BookIsNoLonger → (texts : List (List ℕ)) (trees : List Data) → AreTreesOf texts trees → AllByRecursion IsReadable texts → AllByRecursion IsReadable (map book_text trees)
each_readable shorter book_shorter texts [] e h = tt
each_readable shorter book_shorter [] (t ∷ trees) e h = absurd (cc)
each_readable shorter book_shorter (text ∷ texts) (t ∷ trees) e h =
    let here : tree text ≡ Some t = cc in
    let rest : map tree texts ≡ map (λ t. Some t) trees = cc in
    (omega (arith, h.0, shorter text t here, book_shorter t), each_readable shorter book_shorter texts trees rest h.1)

readable_bind : IsNoLonger → (bind : List ℕ) (d : Data) → bindings_of bind ≡ Some d → IsReadable bind → IsReadable (bind_text bind d)
readable_bind shorter [] d e h = h
readable_bind shorter (b ∷ bytes) d e h = omega (arith, h, shorter (b ∷ bytes) d e)

pub is_setup : SoundGives → AcceptedAgain → IsNoLonger → BookIsNoLonger → (texts : List (List ℕ)) (bind : List ℕ) (given : Given) → Accepted AreAccepted FitsKind texts bind given → All IsReadable texts → IsReadable bind
    → All (λ (b : Book). AreSteps b.steps) given.books → AreInOrder given.agents → IsSetup given
is_setup gives again shorter book_shorter texts bind given h readable bind_readable steps order =
    let books : length given.books ≡ length h.trees = ap (λ (g : Given). length g.books) h.given_is ∙ length-map h.trees book in
    record {
      accepted = again texts bind given h;
      order = order;
      runnable = accepted_is_runnable gives texts bind given h;
      few = omega (arith, books, h.few);
      steps = steps;
      texts = ap (λ (g : Given). length g.texts) h.given_is ∙ length-map h.trees book_text ∙ sym books;
      readable = subst (λ (g : Given). All IsReadable g.texts) (sym h.given_is)
          (All-from_recursion IsReadable (map book_text h.trees) (each_readable shorter book_shorter texts h.trees h.trees_are (recursion_from_All IsReadable texts readable)));
      bind = subst (λ (g : Given). IsReadable g.bind) (sym h.given_is) (readable_bind shorter bind h.bindings h.bindings_are bind_readable);
    }

-- ---- what is read

given_same : (books : List Book) (texts : List (List ℕ)) (bind : List ℕ) (agents : List (List ℕ × ℕ)) (variables : List (List ℕ × List ℕ)) (g : Given) → books ≡ g.books → texts ≡ g.texts → bind ≡ g.bind → agents ≡ g.agents
    → variables ≡ g.variables → given_by books texts bind agents variables ≡ g
given_same books texts bind agents variables g a b c d e = rw a rw b rw c rw d rw e refl

pub accepted_whole : (texts : List (List ℕ)) (bind : List ℕ) (trees : List Data) (d : Data) (b : Book) (books : List Book) (canonical : List (List ℕ)) (bound : List ℕ) (agents : List (List ℕ × ℕ)) (variables : List (List ℕ × List ℕ))
    → length texts ≤ 16 → AreTreesOf texts trees → bindings_of bind ≡ Some d → AreAccepted trees → slice_get books 0 ≡ Some b → ((rule : BindRule) → KeepsBind FitsKind b.variables d rule)
    → books ≡ map book trees → canonical ≡ map book_text trees → bound ≡ bind_text bind d → agents ≡ agents_in d → variables ≡ variables_in d
    → Accepted AreAccepted FitsKind texts bind (given_by books canonical bound agents variables)
accepted_whole texts bind trees d b books canonical bound agents variables few are is accepted first kept e1 e2 e3 e4 e5 = record {
  trees = trees;
  bindings = d;
  trees_are = are;
  bindings_are = is;
  few = omega (arith, few, count_trees texts trees are);
  accepted = accepted;
  bound = λ rule. subst (λ (vars : List Var). KeepsBind FitsKind vars d rule) (sym (variables_are trees books b e1 first)) (kept rule);
  given_is = given_same books canonical bound agents variables (given_of trees bind d) e1 e2 e3 e4 e5;
}
