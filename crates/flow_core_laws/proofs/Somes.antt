-- Options that are there, and tests that hold.
use Rattle.std.proofs.Common.{◌≡◌, ℕ, ◌≤◌, ◌==◌, ◌&&◌, Bool, true, false, cond, Option, Some, None, is_some, arith, refl, ap, ◌∙◌}
use Rattle.std.specs.Prelude.{IfSome, nat_le, option_and_then, option_map}

pub none_some : {A : Type 0} (x : A) → None ≡ Some x → ⊥
none_some x h = cc

pub clash : (b : Bool) → b ≡ true → b ≡ false → ⊥
clash true x y = cc
clash false x y = cc

pub le_true : (a b : ℕ) → a ≤ b → nat_le a b ≡ true
le_true a b h = grind arith

pub le_of : (a b : ℕ) → nat_le a b ≡ true → a ≤ b
le_of a b h = grind arith

pub equal_of : (a b : ℕ) → (a == b) ≡ true → a ≡ b
equal_of a b h = grind arith

pub equal_true : (a b : ℕ) → a ≡ b → (a == b) ≡ true
equal_true a b h = grind arith

pub both_true : (a b : Bool) → a ≡ true → b ≡ true → (a && b) ≡ true
both_true true true e g = refl
both_true true false e g = g
both_true false b e g = e

pub parts_true : (a b : Bool) → (a && b) ≡ true → (a ≡ true) × (b ≡ true)
parts_true true true e = (refl, refl)
parts_true true false e = (refl, e)
parts_true false b e = absurd (clash false e refl)

-- a family on what an option holds, weakened
pub some_as : {A : Type 0} (P Q : A → Type 0) (o : Option A) → ((x : A) → P x → Q x) → IfSome o P → IfSome o Q
some_as P Q None f h = tt
some_as P Q (Some x) f h = f x h

-- what is there under a test, under a function, or behind a step that may fail
pub cond_some : {A : Type 0} (b : Bool) (o : Option A) → is_some (cond b o None) ≡ true → (b ≡ true) × (is_some o ≡ true)
cond_some true o e = (refl, e)
cond_some false o e = absurd (clash false e refl)

pub cond_is_some : {A : Type 0} (b : Bool) (o : Option A) → b ≡ true → is_some o ≡ true → is_some (cond b o None) ≡ true
cond_is_some true o e h = h
cond_is_some false o e h = absurd (clash false e refl)

pub map_some : {A B : Type 0} (f : A → B) (o : Option A) → is_some (option_map f o) ≡ true → is_some o ≡ true
map_some f None e = absurd (clash false e refl)
map_some f (Some x) e = refl

pub map_is_some : {A B : Type 0} (f : A → B) (o : Option A) → is_some o ≡ true → is_some (option_map f o) ≡ true
map_is_some f None e = absurd (clash false e refl)
map_is_some f (Some x) e = refl

pub record Known {A B : Type 0} (f : A → Option B) (o : Option A) : Type 0 where
  pub value : A
  pub is : o ≡ Some value
  pub some : is_some (f value) ≡ true

pub then_some : {A B : Type 0} (f : A → Option B) (o : Option A) → is_some (option_and_then f o) ≡ true → Known f o
then_some f None e = absurd (clash false e refl)
then_some f (Some x) e = record { value = x; is = refl; some = e }

pub some_then_some : {A B : Type 0} (f : A → Option B) (o : Option A) (x : A) → o ≡ Some x → is_some (f x) ≡ true → is_some (option_and_then f o) ≡ true
some_then_some f o x e h = ap (λ (y : Option _). is_some (option_and_then f y)) e ∙ h
