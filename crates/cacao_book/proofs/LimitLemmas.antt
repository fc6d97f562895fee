-- What a step that breaks no rule holds is within the limits.
use Rattle.std.proofs.Common.{◌≡◌, ℕ, ◌+◌, ◌≤◌, Bool, true, false, ◌||◌, List, [], ◌∷◌, length, map, fold, Ordering, Less, Equal, Greater, nat_cmp, Option, Some, None, codes, refl, arith}
use Rattle.std.specs.List.{slice_index_or}
use Rattle.std.specs.Prelude.{slice_get, suc, IsSomeAnd, IfSome, unwrap_or, option_and_then, All}
use Rattle.std.specs.Option.{option_map_or}
use Rattle.std.specs.Ordering.{match_ordering}
use Rattle.std.specs.Cmp.Lexicographic.{slice_cmp}
use Rattle.std.proofs.lemmas.Bool.{cond_both}
use Rattle.std.proofs.lemmas.List.{length-map}
use Rattle.std.proofs.lemmas.List.Elements.{All-map, All-nil, All-cons}
use Rattle.serde_json.specs.Data.{Data, Members}
use Rattle.serde_json.specs.Find.{get, as_str, as_array, as_object}
use Rattle.cacao_ids.specs.Ids.{IsId}
use Rattle.cacao_book.specs.declared.step_kinds.StepKind.TheVariants.{Start, End, Parallel}
use Rattle.cacao_book_shape.specs.Members.{Has, TextFits, IsText, IsShort, IsObject, items_in, members_in, with_member, in_order, members_at, items_at, texts_at, text_of}
use Rattle.cacao_book_shape.specs.Orders.{IsRising}
use Rattle.cacao_book_shape.specs.Shape.{ShapeRule, KeepsOfStep, k4, k5, k9, k11, k12, IsArgument, is_of_type, IsWellShaped, IsWellShapedStep, workflow}
use Rattle.cacao_book.specs.Books.{arguments_at, argument, command_of, case_of, kind_at, action_of, playbook_action_of, if_of, while_of, switch_of, step_of}
use Rattle.cacao_book.specs.Steps.{KindKeepsLimits, KeepsLimits, AreSteps}
use Rattle.cacao_book_shape.proofs.ListLemmas.{items_fit, may_have}
use Rattle.cacao_book.proofs.OrderLemmas.{steps_in_order}

-- ---- how many members stand in order: no more than there are

length_cases : {X : Type 0} (n : ℕ) (o : Ordering) (xs ys zs : List X) → length xs ≤ n → length ys ≤ n → length zs ≤ n → length (match_ordering o xs ys zs) ≤ n
length_cases n Less xs ys zs h k l = h
length_cases n Equal xs ys zs h k l = k
length_cases n Greater xs ys zs h k l = l

length_with : (done : List (List ℕ × Data)) (new : List ℕ × Data) → length (with_member done new) ≤ length done + 1
length_with [] new = omega arith
length_with (m ∷ ms) new =
    length_cases (length (m ∷ ms) + 1) (slice_cmp nat_cmp new.0 m.0) (new ∷ m ∷ ms) (m ∷ ms) (m ∷ with_member ms new) (omega arith) (omega arith) (omega (arith, length_with ms new))

length_fold : (done ms : List (List ℕ × Data)) → length (fold with_member done ms) ≤ length done + length ms
length_fold done [] = omega arith
length_fold done (m ∷ ms) = omega (arith, length_fold (with_member done m) ms, length_with done m)

length_in_order : (ms : List (List ℕ × Data)) → length (in_order ms) ≤ length ms
length_in_order ms = omega (arith, length_fold [] ms)

members_few : (P : List ℕ × Data → Type 0) (least most : ℕ) (o : Option Data) → IsSomeAnd o (λ d. IsSomeAnd (as_object d) (λ ms. (least ≤ length (members_in ms)) × (length (members_in ms) ≤ most) × All P (members_in ms)))
    → length (option_map_or (λ ms. in_order (members_in ms)) (option_and_then as_object o) []) ≤ most
members_few P least most None h = absurd h
members_few P least most (Some d) h = inner (as_object d) h
  where
    inner : (p : Option Members) → IsSomeAnd p (λ ms. (least ≤ length (members_in ms)) × (length (members_in ms) ≤ most) × All P (members_in ms)) → length (option_map_or (λ ms. in_order (members_in ms)) p []) ≤ most
    inner None h = absurd h
    inner (Some ms) h = omega (arith, length_in_order (members_in ms), h.1)

-- ---- texts

-- what fits the text that is there
pub text_there : (P : List ℕ → Type 0) (o : Option Data) → IsSomeAnd o (λ d. IsSomeAnd (as_str d) P) → P (unwrap_or (option_and_then as_str o) [])
text_there P None h = absurd h
text_there P (Some d) h = inner (as_str d) h
  where
    inner : (p : Option (List ℕ)) → IsSomeAnd p P → P (unwrap_or p [])
    inner None h = absurd h
    inner (Some text) h = h

-- ---- the type that is left where no other one is

skip : (b c : Bool) → b ≡ false → (b || c) ≡ true → c ≡ true
skip true c e f = absurd cc
skip false c e f = f

last : (b : Bool) → (b || false) ≡ true → b ≡ true
last true e = refl
last false e = absurd cc

-- ---- lists of a step

few_texts : (P : Data → Type 0) (least most : ℕ) (name : List ℕ) (s : Data) → IfSome (get name s) (λ d. IsSomeAnd (as_array d) (λ ds. (least ≤ length (items_in ds)) × (length (items_in ds) ≤ most) × All P (items_in ds))) → length (texts_at name s) ≤ most
few_texts P least most name s h = omega (arith, length-map (items_at name s) text_of, (items_fit P least most (get name s) h).0)

few_arguments : (most : ℕ) (name : List ℕ) (s : Data) → IfSome (get name s) (λ d. IsSomeAnd (as_array d) (λ ds. (0 ≤ length (items_in ds)) × (length (items_in ds) ≤ most) × All (TextFits IsArgument) (items_in ds))) → length (arguments_at name s) ≤ most
few_arguments most name s h = omega (arith, length-map (items_at name s) (λ item. argument (text_of item)), (items_fit (TextFits IsArgument) 0 most (get name s) h).0)

action_limits : (s : Data) → IsWellShapedStep s → is_of_type (codes "action") s ≡ true → KindKeepsLimits (action_of s)
action_limits s h e =
    let k = h k9 e in (
      omega (arith, length-map (items_at (codes "commands") s) command_of, (items_fit (Has (codes "type") IsText) 1 64 (get (codes "commands") s) (may_have _ (get (codes "commands") s) k.0)).0),
      few_texts IsText 0 64 (codes "targets") s k.2,
      few_arguments 64 (codes "in_args") s k.3,
      few_arguments 3 (codes "out_args") s k.4,
    )

playbook_action_limits : (s : Data) → IsWellShapedStep s → is_of_type (codes "playbook-action") s ≡ true → KindKeepsLimits (playbook_action_of s)
playbook_action_limits s h e = let k = h k11 e in (few_arguments 64 (codes "in_args") s k.2, few_arguments 64 (codes "out_args") s k.3)

switch_limits : (s : Data) → IsWellShapedStep s → is_of_type (codes "switch-condition") s ≡ true → KindKeepsLimits (switch_of s)
switch_limits s h e =
    omega (arith, length-map (members_at (codes "cases") s) case_of, members_few (λ m. IsText m.1) 1 64 (get (codes "cases") s) ((h k12).3 e).1)

kind_limits : (s : Data) → IsWellShapedStep s → KindKeepsLimits (kind_at s)
kind_limits s h =
    cond_both (is_of_type (codes "start") s) Start _ KindKeepsLimits (λ e. tt) (λ e1.
    cond_both (is_of_type (codes "end") s) End _ KindKeepsLimits (λ e. tt) (λ e2.
    cond_both (is_of_type (codes "action") s) (action_of s) _ KindKeepsLimits (action_limits s h) (λ e3.
    cond_both (is_of_type (codes "playbook-action") s) (playbook_action_of s) _ KindKeepsLimits (playbook_action_limits s h) (λ e4.
    cond_both (is_of_type (codes "parallel") s) (Parallel (texts_at (codes "next_steps") s)) _ KindKeepsLimits
    (λ e. few_texts IsText 1 64 (codes "next_steps") s (may_have _ (get (codes "next_steps") s) ((h k12).0 e))) (λ e5.
    cond_both (is_of_type (codes "if-condition") s) (if_of s) _ KindKeepsLimits (λ e. text_there (IsShort 2048) (get (codes "condition") s) ((h k12).1 e).0.0) (λ e6.
    cond_both (is_of_type (codes "while-condition") s) (while_of s) (switch_of s) KindKeepsLimits (λ e. text_there (IsShort 2048) (get (codes "condition") s) ((h k12).2 e).0) (λ e7.
    switch_limits s h (left e1 e2 e3 e4 e5 e6 e7)
    )))))))
  where
    left : is_of_type (codes "start") s ≡ false → is_of_type (codes "end") s ≡ false → is_of_type (codes "action") s ≡ false → is_of_type (codes "playbook-action") s ≡ false → is_of_type (codes "parallel") s ≡ false → is_of_type (codes "if-condition") s ≡ false → is_of_type (codes "while-condition") s ≡ false → is_of_type (codes "switch-condition") s ≡ true
    left e1 e2 e3 e4 e5 e6 e7 = last _ (skip _ _ e7 (skip _ _ e6 (skip _ _ e5 (skip _ _ e4 (skip _ _ e3 (skip _ _ e2 (skip _ _ e1 (h k5))))))))

each_limits : (steps : List (List ℕ × Data)) → All (λ m. IsWellShapedStep m.1) steps → All KeepsLimits (map step_of steps)
each_limits steps h = All-map KeepsLimits step_of steps (λ k d lt. kind_limits (slice_index_or steps k d).1 (h k d lt))

-- ---- the steps of a book that breaks no rule

shaped_steps : (t : Data) → IsWellShaped t → (steps : List (List ℕ × Data)) → ((place : ℕ) (rule : ShapeRule) → IfSome (slice_get steps place) (λ step. KeepsOfStep rule step.1)) → All (λ m. IsWellShapedStep m.1) steps
shaped_steps t h [] all = All-nil (λ (m : List ℕ × Data). IsWellShapedStep m.1)
shaped_steps t h (m ∷ ms) all = All-cons (λ (m : List ℕ × Data). IsWellShapedStep m.1) m ms (λ rule. all 0 rule) (shaped_steps t h ms (λ place rule. all (suc place) rule))

pub are_steps : (t : Data) → IsWellShaped t → IsRising (workflow t) → AreSteps (map step_of (workflow t))
are_steps t h rising = record {
  few = omega (arith, length-map (workflow t) step_of, members_few (λ m. IsId m.0 × IsObject m.1) 1 4096 (get (codes "workflow") t) (h (record { step = None; rule = k4 })).2);
  order = steps_in_order (workflow t) rising;
  limits = each_limits (workflow t) (shaped_steps t h (workflow t) (λ place rule. h (record { step = Some place; rule = rule })));
}
