-- The edges of playbooks that are accepted join nodes.
use Rattle.std.proofs.Common.{◌≡◌, ◌∙◌, ℕ, zero, suc, ◌+◌, ◌<◌, Bool, true, false, List, [], ◌∷◌, ◌++◌, length, map, Option, Some, None, IsSome, IfSome, IsSomeAnd, Contains, slice_get, option_to_list, refl, sym, ap, subst, arith}
use Rattle.std.specs.Prelude.{All, flat_map, option_map, option_and_then, if◌then◌else◌}
use Rattle.std.specs.Option.{option_map_or}
use Rattle.std.specs.Str.{bytes_eq}
use Rattle.std.proofs.lemmas.List.Elements.{All-append, All-cons, All-map, All-nil, All-weaker, Contains-append_left, Contains-append_right}
use Rattle.std.proofs.lemmas.Option.{slice_get-map}
use Rattle.std.proofs.lemmas.Slice.Eq.{bytes_eq-Decides}
use Rattle.serde_json.specs.Data.{Data}
use Rattle.cacao_book.specs.Books.{book, step_of}
use Rattle.cacao_book.specs.Steps.{place_of}
use Rattle.cacao_book.specs.declared.books.Book.{Book}
use Rattle.cacao_book.specs.declared.steps.Step.{Step}
use Rattle.cacao_book.specs.declared.step_kinds.StepKind.TheVariants.{Start}
use Rattle.cacao_book_shape.specs.Shape.{workflow}
use Rattle.cacao_check.specs.FirstBreak.{IsAccepted, of_sense}
use Rattle.cacao_check.specs.Rules.{K15, K16}
use Rattle.cacao_check.specs.Sense.{IsSound}
use Rattle.cacao_check.specs.declared.breaks.Mode.{Mode}
use Rattle.cacao_check.specs.declared.rules.SenseRule.TheVariants as rule
use Rattle.cacao_check.proofs.LawLemmas.{sound_gives}
use Rattle.cacao_check_regions.proofs.LeadLemmas.{called_within}
use Rattle.cacao_check_steps.specs.Calls.{called}
use Rattle.cacao_check_steps.specs.Links.{head_keys, next_keys}
use Rattle.cacao_view_graph.specs.Laws.{book_ends, ends_to, links_from, start_of, step_ends, steps_from}
use Rattle.cacao_view_graph.specs.Statements.{Place}

-- ---- steps of a playbook

here : {X : Type 0} (x : X) (xs : List X) → Contains (x ∷ xs) x
here x xs = (0, omega arith, refl)

further : {X : Type 0} (x y : X) (xs : List X) → Contains xs x → Contains (y ∷ xs) x
further x y xs c = Contains-append_right (y ∷ []) xs x c

some_under : (o : Option ℕ) → IsSome (option_map suc o) → IsSome o
some_under None h = h
some_under (Some n) h = refl

-- the steps of a playbook with this number
abbrev keyed : ℕ → List (List ℕ × Data) → List Place
keyed number ms = map (λ m. (number, m.0)) ms

-- a key that names a step is that of one
key_at : (number : ℕ) (m : List ℕ × Data) (ms : List (List ℕ × Data)) (key : List ℕ) (t : Bool) → bytes_eq m.0 key ≡ t → IsSome (if t then Some 0 else option_map suc (place_of (map step_of ms) key))
    → (IsSome (place_of (map step_of ms) key) → Contains (keyed number ms) (number, key)) → Contains (keyed number (m ∷ ms)) (number, key)
key_at number m ms key true e h rest = subst (λ k. Contains (keyed number (m ∷ ms)) (number, k)) ((bytes_eq-Decides m.0 key).0 e) (here (number, m.0) (keyed number ms))
key_at number m ms key false e h rest = further (number, key) (number, m.0) (keyed number ms) (rest (some_under (place_of (map step_of ms) key) h))

key_listed : (number : ℕ) (ms : List (List ℕ × Data)) (key : List ℕ) → IsSome (place_of (map step_of ms) key) → Contains (keyed number ms) (number, key)
key_listed number [] key h = absurd cc
key_listed number (m ∷ ms) key h = key_at number m ms key (bytes_eq m.0 key) refl h (λ rest. key_listed number ms key rest)

some_is : {X : Type 0} {a b : X} → Some a ≡ Some b → a ≡ b
some_is e = cc

keyed_at : (n : ℕ) (ms : List (List ℕ × Data)) (k : ℕ) (m : List ℕ × Data) → slice_get ms k ≡ Some m → Contains (keyed n ms) (n, m.0)
keyed_at n [] k m at = absurd cc
keyed_at n (x ∷ ms) zero m at = subst (λ (z : List ℕ × Data). Contains (keyed n (x ∷ ms)) (n, z.0)) (some_is at) (here (n, x.0) (keyed n ms))
keyed_at n (x ∷ ms) (suc k) m at = further (n, m.0) (n, x.0) (keyed n ms) (keyed_at n ms k m at)

-- the steps of a playbook are among all
own_listed : (base n : ℕ) (ts : List Data) (t : Data) (p : Place) → slice_get ts n ≡ Some t → Contains (keyed (base + n) (workflow t)) p → Contains (steps_from base ts) p
own_listed base n [] t p e c = absurd cc
own_listed base zero (u ∷ ts) t p e c =
    let at : base + zero ≡ base = omega arith in
    Contains-append_left (keyed base (workflow u)) (steps_from (suc base) ts) p
    (subst (λ k. Contains (keyed k (workflow u)) p) at (subst (λ v. Contains (keyed (base + zero) (workflow v)) p) (sym (some_is e)) c))
own_listed base (suc n) (u ∷ ts) t p e c =
    let at : base + suc n ≡ suc base + n = omega arith in
    Contains-append_right (keyed base (workflow u)) (steps_from (suc base) ts) p (own_listed (suc base) n ts t p e (subst (λ k. Contains (keyed k (workflow t)) p) at c))

named_listed : (trees : List Data) (n : ℕ) (t : Data) (key : List ℕ) → slice_get trees n ≡ Some t → IsSome (place_of (book t).steps key) → Contains (steps_from 0 trees) (n, key)
named_listed trees n t key e h =
    let at : n ≡ 0 + n = omega arith in
    own_listed 0 n trees t (n, key) e (subst (λ k. Contains (keyed k (workflow t)) (n, key)) at (key_listed n (workflow t) key h))

member_listed : (trees : List Data) (n k : ℕ) (t : Data) (m : List ℕ × Data) → slice_get trees n ≡ Some t → slice_get (workflow t) k ≡ Some m → Contains (steps_from 0 trees) (n, m.0)
member_listed trees n k t m e at =
    let same : n ≡ 0 + n = omega arith in
    own_listed 0 n trees t (n, m.0) e (subst (λ j. Contains (keyed j (workflow t)) (n, m.0)) same (keyed_at n (workflow t) k m at))

-- ---- what is accepted

sound_from : (trees : List Data) (mode : Mode) → IsAccepted trees mode → IsSound (map book trees) mode
sound_from trees mode accepted = λ demand. accepted (of_sense demand)

book_there : (trees : List Data) (n : ℕ) (t : Data) → slice_get trees n ≡ Some t → slice_get (map book trees) n ≡ Some (book t)
book_there trees n t e = slice_get-map book trees n ∙ ap (option_map book) e

step_there : (t : Data) (k : ℕ) (m : List ℕ × Data) → slice_get (workflow t) k ≡ Some m → slice_get (book t).steps k ≡ Some (step_of m)
step_there t k m e = slice_get-map step_of (workflow t) k ∙ ap (option_map step_of) e

starts : (trees : List Data) (mode : Mode) → IsAccepted trees mode → (n : ℕ) (t : Data) → slice_get trees n ≡ Some t → K15 (book t)
starts trees mode accepted n t e = sound_gives.of_book (map book trees) mode (sound_from trees mode accepted) n (book t) rule.K15 (book_there trees n t e)

leads : (trees : List Data) (mode : Mode) → IsAccepted trees mode → (n k : ℕ) (t : Data) (m : List ℕ × Data) → slice_get trees n ≡ Some t → slice_get (workflow t) k ≡ Some m → K16 (book t) (step_of m)
leads trees mode accepted n k t m e at = sound_gives.of_step (map book trees) mode (sound_from trees mode accepted) n k (book t) (step_of m) rule.K16 (book_there trees n t e) (step_there t k m at)

some_place : (o : Option ℕ) (steps : List Step) (P : Step → Type 0) → IsSomeAnd (option_and_then (slice_get steps) o) P → IsSome o
some_place None steps P h = absurd h
some_place (Some p) steps P h = refl

start_named : (b : Book) → K15 b → IsSome (place_of b.steps b.start)
start_named b h = some_place (place_of b.steps b.start) b.steps (λ step. step.kind ≡ Start) h.0

start_listed : (trees : List Data) (mode : Mode) → IsAccepted trees mode → (n : ℕ) (t : Data) → slice_get trees n ≡ Some t → Contains (steps_from 0 trees) (n, (book t).start)
start_listed trees mode accepted n t e = named_listed trees n t (book t).start e (start_named (book t) (starts trees mode accepted n t e))

-- ---- links

abbrev AreNodes : List Place → Place × Place → Type 0
AreNodes nodes ends = Contains nodes ends.0 × Contains nodes ends.1

ends_nodes : (nodes : List Place) (from : Place) (keys : List (List ℕ)) → Contains nodes from → All (λ key. Contains nodes (from.0, key)) keys → All (AreNodes nodes) (ends_to from keys)
ends_nodes nodes from keys c h = All-map (AreNodes nodes) (λ key. (from, (from.0, key))) keys (All-weaker (λ key. Contains nodes (from.0, key)) (λ key. AreNodes nodes (from, (from.0, key))) (λ key d. (c, d)) keys h)

call_nodes : (nodes : List Place) (books : List Book) (from : Place) (o : Option ℕ) → Contains nodes from → ((n : ℕ) → o ≡ Some n → Contains nodes (start_of books n)) → All (AreNodes nodes) (map (λ number. (from, start_of books number)) (option_to_list o))
call_nodes nodes books from None c h = All-nil (AreNodes nodes)
call_nodes nodes books from (Some n) c h = All-cons (AreNodes nodes) (from, start_of books n) [] (c, h n refl) (All-nil (AreNodes nodes))

none_past : (n : ℕ) (ts : List Data) → n < length (map book ts) → slice_get ts n ≡ None → ⊥
none_past n [] lt e = omega arith
none_past zero (t ∷ ts) lt e = cc
none_past (suc n) (t ∷ ts) lt e = none_past n ts (omega arith) e

called_start : (trees : List Data) (mode : Mode) → IsAccepted trees mode → (n : ℕ) → n < length (map book trees) → Contains (steps_from 0 trees) (start_of (map book trees) n)
called_start trees mode accepted n lt = at (slice_get trees n) refl
  where
    at : (o : Option Data) → slice_get trees n ≡ o → Contains (steps_from 0 trees) (start_of (map book trees) n)
    at (Some t) e = subst (λ (o : Option Book). Contains (steps_from 0 trees) (n, option_map_or (λ b. b.start) o [])) (sym (book_there trees n t e)) (start_listed trees mode accepted n t e)
    at None e = absurd (none_past n trees lt e)

step_nodes : (trees : List Data) (mode : Mode) → IsAccepted trees mode → (n k : ℕ) (t : Data) (m : List ℕ × Data) → slice_get trees n ≡ Some t → slice_get (workflow t) k ≡ Some m
    → All (AreNodes (steps_from 0 trees)) (step_ends (map book trees) (n, m.0) (step_of m))
step_nodes trees mode accepted n k t m e at =
    let nodes = steps_from 0 trees in
    let from = member_listed trees n k t m e at in
    let keys = next_keys (step_of m) ++ head_keys (step_of m).kind in
    All-append (AreNodes nodes) (ends_to (n, m.0) keys) (map (λ number. ((n, m.0), start_of (map book trees) number)) (option_to_list (called (map book trees) (step_of m))))
    (ends_nodes nodes (n, m.0) keys from
    (All-weaker (λ key. IsSome (place_of (book t).steps key)) (λ key. Contains nodes (n, key)) (λ key named. named_listed trees n t key e named) keys (leads trees mode accepted n k t m e at)))
    (call_nodes nodes (map book trees) (n, m.0) (called (map book trees) (step_of m)) from
    (λ number is. called_start trees mode accepted number (called_within (map book trees) (step_of m) number is)))

-- from each member
members_nodes : (P : Place × Place → Type 0) (f : List ℕ × Data → List (Place × Place)) (ms : List (List ℕ × Data)) → ((k : ℕ) (m : List ℕ × Data) → slice_get ms k ≡ Some m → All P (f m)) → All P (flat_map f ms)
members_nodes P f [] h = All-nil P
members_nodes P f (m ∷ ms) h = All-append P (f m) (flat_map f ms) (h 0 m refl) (members_nodes P f ms (λ k x at. h (suc k) x at))

exception_nodes : (nodes : List Place) (n : ℕ) (start : List ℕ) (o : Option (List ℕ)) → Contains nodes (n, start) → IfSome o (λ key. Contains nodes (n, key)) → All (AreNodes nodes) (ends_to (n, start) (option_to_list o))
exception_nodes nodes n start None c h = All-nil (AreNodes nodes)
exception_nodes nodes n start (Some key) c h = All-cons (AreNodes nodes) ((n, start), (n, key)) [] (c, h) (All-nil (AreNodes nodes))

if_some : {X : Type 0} (o : Option X) (P Q : X → Type 0) → ((x : X) → P x → Q x) → IfSome o P → IfSome o Q
if_some None P Q f h = h
if_some (Some x) P Q f h = f x h

book_nodes : (trees : List Data) (mode : Mode) → IsAccepted trees mode → (n : ℕ) (t : Data) → slice_get trees n ≡ Some t → All (AreNodes (steps_from 0 trees)) (book_ends (map book trees) n t)
book_nodes trees mode accepted n t e =
    let nodes = steps_from 0 trees in
    All-append (AreNodes nodes) (ends_to (n, (book t).start) (option_to_list (book t).exception)) (flat_map (λ m. step_ends (map book trees) (n, m.0) (step_of m)) (workflow t))
    (exception_nodes nodes n (book t).start (book t).exception (start_listed trees mode accepted n t e)
    (if_some (book t).exception (λ key. IsSome (place_of (book t).steps key)) (λ key. Contains nodes (n, key)) (λ key named. named_listed trees n t key e named) (starts trees mode accepted n t e).1))
    (members_nodes (AreNodes nodes) (λ m. step_ends (map book trees) (n, m.0) (step_of m)) (workflow t) (λ k m at. step_nodes trees mode accepted n k t m e at))

all_nodes : (P : Place × Place → Type 0) (books : List Book) (base : ℕ) (ts : List Data) → ((n : ℕ) (t : Data) → slice_get ts n ≡ Some t → All P (book_ends books (base + n) t)) → All P (links_from books base ts)
all_nodes P books base [] h = All-nil P
all_nodes P books base (t ∷ ts) h =
    All-append P (book_ends books base t) (links_from books (suc base) ts) (subst (λ k. All P (book_ends books k t)) (let at : base + 0 ≡ base = omega arith in at) (h 0 t refl))
    (all_nodes P books (suc base) ts (λ n u at. subst (λ k. All P (book_ends books k u)) (let same : base + suc n ≡ suc base + n = omega arith in same) (h (suc n) u at)))

pub edges_join : (trees : List Data) (mode : Mode) → IsAccepted trees mode → All (λ ends. Contains (steps_from 0 trees) ends.0 × Contains (steps_from 0 trees) ends.1) (links_from (map book trees) 0 trees)
edges_join trees mode accepted =
    all_nodes (AreNodes (steps_from 0 trees)) (map book trees) 0 trees
    (λ n t e. subst (λ k. All (AreNodes (steps_from 0 trees)) (book_ends (map book trees) k t)) (let at : n ≡ 0 + n = omega arith in at) (book_nodes trees mode accepted n t e))
