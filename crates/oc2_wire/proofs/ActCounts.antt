-- The acts that were appended, counted by file.
use Rattle.std.proofs.Common.{◌≡◌, ◌≢◌, inl, inr, ℕ, zero, suc, ◌+◌, ◌*◌, ◌<◌, ◌≤◌, Bool, true, false, List, [], ◌∷◌, ◌++◌, length, refl, ◌∙◌, subst, ap, arith, All, length-append}
use Rattle.std.specs.Prelude.{Some, slice_get, slice_set, nat_eq, if◌then◌else◌}
use Rattle.std.proofs.lemmas.List.{length-map}
use Rattle.run_journal.specs.Layout.{entries, front, header, length_field}
use Rattle.run_records.specs.Layout.{act_layout}
use Rattle.run_records.specs.declared.act.Act.{Act}
use Rattle.flow_laws.specs.Images.{IsAgent}
use Rattle.flow_laws.proofs.Basics.{same_or_not}
use Rattle.slpf_actuator.specs.ActLists.{entries_of, length_with}
use Rattle.flow_world_steps.specs.Grown.{acts_of}
use Rattle.flow_world_steps.proofs.Issues.{eq_apart, eq_itself}

-- ---- acts of one agent

pub acts_append : (agent : ℕ) (xs ys : List (ℕ × Act)) → acts_of agent (xs ++ ys) ≡ acts_of agent xs ++ acts_of agent ys
acts_append agent [] ys = refl
acts_append agent (x ∷ xs) ys = by (nat_eq x.0 agent) (acts_append agent xs ys)
  where
    by : (b : Bool) → acts_of agent (xs ++ ys) ≡ acts_of agent xs ++ acts_of agent ys
        → (if b then x.1 ∷ acts_of agent (xs ++ ys) else acts_of agent (xs ++ ys)) ≡ (if b then x.1 ∷ acts_of agent xs else acts_of agent xs) ++ acts_of agent ys
    by true rest = ap (λ (l : List Act). x.1 ∷ l) rest
    by false rest = rest

one_own : (agent : ℕ) (act : Act) → acts_of agent ((agent, act) ∷ []) ≡ act ∷ []
one_own agent act = ap (λ (b : Bool). if b then act ∷ [] else []) (eq_itself agent)

one_other : (agent other : ℕ) (act : Act) → other ≢ agent → acts_of agent ((other, act) ∷ []) ≡ []
one_other agent other act ne = ap (λ (b : Bool). if b then act ∷ [] else []) (eq_apart other agent ne)

-- with one more, for this agent or for another
pub acts_own : (agent : ℕ) (acts : List (ℕ × Act)) (act : Act) → acts_of agent (acts ++ (agent, act) ∷ []) ≡ acts_of agent acts ++ act ∷ []
acts_own agent acts act = acts_append agent acts ((agent, act) ∷ []) ∙ ap (λ (l : List Act). acts_of agent acts ++ l) (one_own agent act)

pub acts_other : (agent other : ℕ) (acts : List (ℕ × Act)) (act : Act) → other ≢ agent → acts_of agent (acts ++ (other, act) ∷ []) ≡ acts_of agent acts ++ []
acts_other agent other acts act ne = acts_append agent acts ((other, act) ∷ []) ∙ ap (λ (l : List Act). acts_of agent acts ++ l) (one_other agent other act ne)

-- ---- how many there are

-- in the files of agents up to this one
count_to : ℕ → List (ℕ × Act) → ℕ
count_to zero acts = 0
count_to (suc n) acts = length (acts_of (suc n) acts) + count_to n acts

longer : (agent : ℕ) (e : ℕ × Act) (acts : List (ℕ × Act)) → length (acts_of agent acts) ≤ length (acts_of agent (e ∷ acts))
longer agent e acts = by (nat_eq e.0 agent)
  where
    by : (b : Bool) → length (acts_of agent acts) ≤ length (if b then e.1 ∷ acts_of agent acts else acts_of agent acts)
    by true = omega arith
    by false = omega arith

own_longer : (e : ℕ × Act) (acts : List (ℕ × Act)) → length (acts_of e.0 (e ∷ acts)) ≡ 1 + length (acts_of e.0 acts)
own_longer e acts = ap (λ (b : Bool). length (if b then e.1 ∷ acts_of e.0 acts else acts_of e.0 acts)) (eq_itself e.0) ∙ plus (length (acts_of e.0 acts))
  where
    plus : (n : ℕ) → suc n ≡ 1 + n
    plus n = omega arith

counts_more : (n : ℕ) (e : ℕ × Act) (acts : List (ℕ × Act)) → count_to n acts ≤ count_to n (e ∷ acts)
unfolding count_to
counts_more zero e acts = omega arith
counts_more (suc n) e acts = let here = longer (suc n) e acts in let rest = counts_more n e acts in omega (arith, here, rest)

counts_one : (n : ℕ) (e : ℕ × Act) (acts : List (ℕ × Act)) → 1 ≤ e.0 → e.0 ≤ n → 1 + count_to n acts ≤ count_to n (e ∷ acts)
unfolding count_to
counts_one zero e acts low high = absurd (omega (arith, low, high))
counts_one (suc n) e acts low high = elim (same_or_not e.0 (suc n)) [
  | inl same ↦
      let here : length (acts_of (suc n) (e ∷ acts)) ≡ 1 + length (acts_of (suc n) acts) = subst (λ (a : ℕ). length (acts_of a (e ∷ acts)) ≡ 1 + length (acts_of a acts)) same (own_longer e acts) in
      let rest = counts_more n e acts in
      omega (arith, here, rest)
  | inr ne ↦
      let below : e.0 ≤ n = (let high' = high in not_last e.0 n high' ne) in
      let here = longer (suc n) e acts in
      let rest = counts_one n e acts low below in
      omega (arith, here, rest)
]
  where
    not_last : (a n : ℕ) → a ≤ suc n → a ≢ suc n → a ≤ n
    not_last a n le ne = omega (arith, le, ne)

all_counted : (acts : List (ℕ × Act)) → All (λ (e : ℕ × Act). IsAgent e.0) acts → length acts ≤ count_to 16 acts
all_counted [] all = omega arith
all_counted (e ∷ acts) all =
    let here = all 0 e (omega arith) in
    let rest = all_counted acts (λ k d lt. all (suc k) d (omega (arith, lt))) in
    let one = counts_one 16 e acts here.0 here.1 in
    omega (arith, rest, one)

counts_few : (n m : ℕ) (acts : List (ℕ × Act)) → ((k : ℕ) → k < n → length (acts_of (suc k) acts) ≤ m) → count_to n acts ≤ n * m
unfolding count_to
counts_few zero m acts each = omega arith
counts_few (suc n) m acts each =
    let here = each n (omega arith) in
    let rest = counts_few n m acts (λ k lt. each k (omega (arith, lt))) in
    omega (arith, here, rest)

-- sixteen times as many as one file has at most
pub acts_few : (m : ℕ) (acts : List (ℕ × Act)) → All (λ (e : ℕ × Act). IsAgent e.0) acts → ((k : ℕ) → k < 16 → length (acts_of (suc k) acts) ≤ m) → length acts ≤ 16 * m
acts_few m acts all each = let many = all_counted acts all in let few = counts_few 16 m acts each in omega (arith, many, few)

-- ---- how many fit into a file

many_entries : (items : List (List ℕ)) → length items ≤ length (entries items)
unfolding entries
many_entries [] = omega arith
many_entries (item ∷ items) =
    let whole : length ((1 ∷ length_field (length item) ++ item) ++ entries items) ≡ length (1 ∷ length_field (length item) ++ item) + length (entries items) = length-append (1 ∷ length_field (length item) ++ item) (entries items) in
    let front_part : length (1 ∷ length_field (length item) ++ item) ≡ length (1 ∷ length_field (length item)) + length item = length-append (1 ∷ length_field (length item)) item in
    omega (arith, whole, front_part, many_entries items)

many_in_front : (items : List (List ℕ)) → length items ≤ length (front items)
unfolding front
many_in_front items = omega (arith, length-append header (entries items), many_entries items)

pub fits_few : (acts : List Act) (act : Act) (n : ℕ) → length_with acts act ≤ n → length acts + 1 ≤ n
fits_few acts act n fits =
    let many : length (entries_of acts) ≡ length acts = length-map acts act_layout in
    omega (arith, fits, many_in_front (entries_of acts), many)

-- ---- lists

pub length_set : {T : Type 0} (xs : List T) (k : ℕ) (y : T) → length (slice_set xs k y) ≡ length xs
length_set [] zero y = refl
length_set [] (suc k) y = refl
length_set (x ∷ xs) zero y = refl
length_set (x ∷ xs) (suc k) y = ap suc (length_set xs k y)

pub set_same : {T : Type 0} (xs : List T) (k : ℕ) (v : T) → slice_get xs k ≡ Some v → slice_set xs k v ≡ xs
set_same [] zero v is = refl
set_same [] (suc k) v is = refl
set_same {T} (x ∷ xs) zero v is = let e : v ≡ x = cc in ap (λ (y : T). y ∷ xs) e
set_same {T} (x ∷ xs) (suc k) v is = ap (λ (l : List T). x ∷ l) (set_same xs k v is)

pub each_all : {T : Type 0} (P Q : T → Type 0) (xs : List T) → ((x : T) → P x → Q x) → All P xs → All Q xs
each_all P Q xs to all k d lt = to _ (all k d lt)
