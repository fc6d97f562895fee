-- All warnings, from those of each kind.
use Rattle.std.proofs.Common.{◌≡◌, ◌∙◌, ap, Bool, List, [], ◌++◌, codes, map, append_assoc}
use Rattle.serde_json.specs.Data.{Data}
use Rattle.cacao_book.specs.declared.books.Book.{Book}
use Rattle.cacao_book_shape.specs.Members.{members_at}
use Rattle.cacao_check_regions.specs.Surveys.{AreSurveysOf}
use Rattle.cacao_check_regions.specs.declared.surveys.Survey.{Survey}
use Rattle.cacao_view_preflight.specs.Warnings.{AreWarnings, Text, all_agents, each, names_of, of_agents, of_bindings, of_book_commands, of_book_variables, of_inner_variables, of_members, of_reach, warnings, warnings_by}
use Rattle.cacao_view_preflight.proofs.ReachLemmas.{reached_all}

-- what was added twice was added at once
joined : (old mid new a b : List Text) → mid ≡ old ++ a → new ≡ mid ++ b → new ≡ old ++ (a ++ b)
joined old mid new a b first second = second ∙ ap (λ (l : List Text). l ++ b) first ∙ append_assoc old a b

pub are_warnings : (books : List Book) (trees : List Data) (bindings : Data) (surveys : List Survey) (agents variables : List Text) (l0 l1 l2 l3 l4 l5 l6 l7 : List Text)
    → AreSurveysOf books surveys → agents ≡ names_of (members_at (codes "agents") bindings) → variables ≡ names_of (members_at (codes "variables") bindings)
    → l0 ≡ [] → l1 ≡ l0 ++ each (of_agents agents books) 0 books → l2 ≡ l1 ++ of_bindings (all_agents books) agents → l3 ≡ l2 ++ each (of_book_variables variables books) 0 books
    → l4 ≡ l3 ++ each of_inner_variables 0 books → l5 ≡ l4 ++ each of_book_commands 0 books → l6 ≡ l5 ++ each of_members 0 trees
    → l7 ≡ l6 ++ of_reach (map (λ (survey : Survey). survey.chart.reach) surveys) books
    → AreWarnings books trees bindings l7
are_warnings books trees bindings surveys agents variables l0 l1 l2 l3 l4 l5 l6 l7 surveyed agents_are variables_are none e1 e2 e3 e4 e5 e6 e7 =
    let reached : List (List Bool) = map (λ (survey : Survey). survey.chart.reach) surveys in
    let A : List Text = each (of_agents agents books) 0 books in
    let B : List Text = of_bindings (all_agents books) agents in
    let C : List Text = each (of_book_variables variables books) 0 books in
    let D : List Text = each of_inner_variables 0 books in
    let E : List Text = each of_book_commands 0 books in
    let F : List Text = each of_members 0 trees in
    let G : List Text = of_reach reached books in
    let from5 : l7 ≡ l5 ++ (F ++ G) = joined l5 l6 l7 F G e6 e7 in
    let from4 : l7 ≡ l4 ++ (E ++ (F ++ G)) = joined l4 l5 l7 E (F ++ G) e5 from5 in
    let from3 : l7 ≡ l3 ++ (D ++ (E ++ (F ++ G))) = joined l3 l4 l7 D (E ++ (F ++ G)) e4 from4 in
    let from2 : l7 ≡ l2 ++ (C ++ (D ++ (E ++ (F ++ G)))) = joined l2 l3 l7 C (D ++ (E ++ (F ++ G))) e3 from3 in
    let from1 : l7 ≡ l1 ++ (B ++ (C ++ (D ++ (E ++ (F ++ G))))) = joined l1 l2 l7 B (C ++ (D ++ (E ++ (F ++ G)))) e2 from2 in
    let from0 : l7 ≡ l0 ++ (A ++ (B ++ (C ++ (D ++ (E ++ (F ++ G)))))) = joined l0 l1 l7 A (B ++ (C ++ (D ++ (E ++ (F ++ G))))) e1 from1 in
    let all : l7 ≡ warnings books trees bindings reached =
    from0 ∙ ap (λ (l : List Text). l ++ (A ++ (B ++ (C ++ (D ++ (E ++ (F ++ G))))))) none
    ∙ ap (λ (bound : List Text). warnings_by books trees bound variables reached) agents_are
    ∙ ap (λ (bound : List Text). warnings_by books trees (names_of (members_at (codes "agents") bindings)) bound reached) variables_are in
    record { reached = reached; exact = reached_all books surveys surveyed; are = all }
