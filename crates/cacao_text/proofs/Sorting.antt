-- Sorting by names: under a map, of members that stand in order, and what holds of each member.
use Rattle.std.proofs.Common.{◌≡◌, ℕ, ◌+◌, arith, List, [], ◌∷◌, ◌++◌, Bool, true, false, map, refl, sym, ap, subst, ◌∙◌, append_assoc, append-nil}
use Rattle.std.specs.Prelude.{fold, if◌then◌else◌}
use Rattle.cacao_text.specs.Canon.{comes_before, insert_named, in_order}
use Rattle.cacao_text.specs.Arranged.{NoneBefore, AreInOrder}

map_if : {A B : Type 0} (f : A → B) (b : Bool) (xs ys : List A) → map f (if b then xs else ys) ≡ (if b then map f xs else map f ys)
map_if f true xs ys = refl
map_if f false xs ys = refl

-- a map that keeps the names
map-insert_named : {A B : Type 0} (f : A → B) (name : B → List ℕ) (m : A) (ms : List A) → map f (insert_named (λ a. name (f a)) m ms) ≡ insert_named name (f m) (map f ms)
map-insert_named f name m [] = refl
map-insert_named f name m (n ∷ ns) =
    map_if f (comes_before (name (f m)) (name (f n))) (m ∷ n ∷ ns) (n ∷ insert_named (λ a. name (f a)) m ns)
    ∙ ap (λ l. if comes_before (name (f m)) (name (f n)) then f m ∷ f n ∷ map f ns else f n ∷ l) (map-insert_named f name m ns)

map-fold : {A B : Type 0} (f : A → B) (name : B → List ℕ) (sorted ms : List A) → map f (fold (λ s m. insert_named (λ a. name (f a)) m s) sorted ms) ≡ fold (λ s m. insert_named name m s) (map f sorted) (map f ms)
map-fold f name sorted [] = refl
map-fold f name sorted (m ∷ ms) = map-fold f name (insert_named (λ a. name (f a)) m sorted) ms ∙ ap (λ s. fold (λ t x. insert_named name x t) s (map f ms)) (map-insert_named f name m sorted)

pub map-in_order : {A B : Type 0} (f : A → B) (name : B → List ℕ) (ms : List A) → map f (in_order (λ a. name (f a)) ms) ≡ in_order name (map f ms)
map-in_order f name ms = map-fold f name [] ms

-- ---- members in order stay as they are

not_before : {A : Type 0} (name : A → List ℕ) (k : List ℕ) (done ms : List A) (m : A) → NoneBefore k (map name (done ++ m ∷ ms)) → comes_before (name m) k ≡ false
not_before name k [] ms m h = h.0
not_before name k (n ∷ done) ms m h = not_before name k done ms m h.1

place_last : {A : Type 0} (name : A → List ℕ) (done ms : List A) (m : A) → AreInOrder (map name (done ++ m ∷ ms)) → insert_named name m done ≡ done ++ m ∷ []
place_last name [] ms m h = refl
place_last name (n ∷ done) ms m h =
    ap (λ b. if b then m ∷ n ∷ done else n ∷ insert_named name m done) (not_before name (name n) done ms m h.0) ∙ ap (λ l. n ∷ l) (place_last name done ms m h.1)

fold-in_order : {A : Type 0} (name : A → List ℕ) (done ms : List A) → AreInOrder (map name (done ++ ms)) → fold (λ s m. insert_named name m s) done ms ≡ done ++ ms
fold-in_order name done [] h = sym (append-nil done)
fold-in_order name done (m ∷ ms) h =
    ap (λ s. fold (λ t x. insert_named name x t) s ms) (place_last name done ms m h)
    ∙ fold-in_order name (done ++ m ∷ []) ms (subst (λ l. AreInOrder (map name l)) (sym (append_assoc done (m ∷ []) ms)) h) ∙ append_assoc done (m ∷ []) ms

pub in_order-same : {A : Type 0} (name : A → List ℕ) (ms : List A) → AreInOrder (map name ms) → in_order name ms ≡ ms
in_order-same name ms h = fold-in_order name [] ms h

-- ---- what holds of each member

abbrev pub Each : {A : Type 0} → (A → Type 0) → List A → Type 0
Each P [] = Unit {0}
Each P (x ∷ xs) = P x × Each P xs

each_if : {A : Type 0} (P : A → Type 0) (b : Bool) (xs ys : List A) → Each P xs → Each P ys → Each P (if b then xs else ys)
each_if P true xs ys v w = v
each_if P false xs ys v w = w

pub Each-insert_named : {A : Type 0} (P : A → Type 0) (name : A → List ℕ) (m : A) (ms : List A) → P m → Each P ms → Each P (insert_named name m ms)
Each-insert_named P name m [] h w = (h, tt)
Each-insert_named P name m (n ∷ ns) h w = each_if P (comes_before (name m) (name n)) (m ∷ n ∷ ns) (n ∷ insert_named name m ns) (h, w) (w.0, Each-insert_named P name m ns h w.1)

Each-fold : {A : Type 0} (P : A → Type 0) (name : A → List ℕ) (sorted ms : List A) → Each P sorted → Each P ms → Each P (fold (λ s m. insert_named name m s) sorted ms)
Each-fold P name sorted [] h w = h
Each-fold P name sorted (m ∷ ms) h w = Each-fold P name (insert_named name m sorted) ms (Each-insert_named P name m sorted w.0 h) w.1

pub Each-in_order : {A : Type 0} (P : A → Type 0) (name : A → List ℕ) (ms : List A) → Each P ms → Each P (in_order name ms)
Each-in_order P name ms w = Each-fold P name [] ms tt w

-- ---- sums over the members

abbrev pub total : {A : Type 0} → (A → ℕ) → List A → ℕ
total f [] = 0
total f (x ∷ xs) = f x + total f xs

total_if : {A : Type 0} (f : A → ℕ) (b : Bool) (xs ys : List A) (n : ℕ) → total f xs ≡ n → total f ys ≡ n → total f (if b then xs else ys) ≡ n
total_if f true xs ys n e g = e
total_if f false xs ys n e g = g

total-insert_named : {A : Type 0} (f : A → ℕ) (name : A → List ℕ) (m : A) (ms : List A) → total f (insert_named name m ms) ≡ f m + total f ms
total-insert_named f name m [] = refl
total-insert_named f name m (n ∷ ns) = total_if f (comes_before (name m) (name n)) (m ∷ n ∷ ns) (n ∷ insert_named name m ns) (f m + (f n + total f ns)) refl (omega (arith, total-insert_named f name m ns))

total-fold : {A : Type 0} (f : A → ℕ) (name : A → List ℕ) (sorted ms : List A) → total f (fold (λ s m. insert_named name m s) sorted ms) ≡ total f sorted + total f ms
total-fold f name sorted [] = omega arith
total-fold f name sorted (m ∷ ms) = omega (arith, total-fold f name (insert_named name m sorted) ms, total-insert_named f name m sorted)

-- sorting keeps sums
pub total-in_order : {A : Type 0} (f : A → ℕ) (name : A → List ℕ) (ms : List A) → total f (in_order name ms) ≡ total f ms
total-in_order f name ms = omega (arith, total-fold f name [] ms)
