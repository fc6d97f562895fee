-- Moments as they are kept.
use Rattle.std.proofs.Common.{◌≡◌, ℕ, zero, suc, ◌≤◌, ◌<◌, Bool, true, false, cond, List, [], ◌∷◌, ◌++◌, length, set, get_or, Option, Some, None, refl, sym, ap, ◌∙◌, arith}
use Rattle.base_dues.specs.Moments.{moments_of}

pub length-moments : (hs : List Bool) (ts : List ℕ) → length hs ≡ length ts → length (moments_of hs ts) ≡ length hs
length-moments [] ts e = refl
length-moments (h ∷ hs) [] e = absurd (omega (arith, e))
length-moments (h ∷ hs) (t ∷ ts) e = ap suc (length-moments hs ts (omega (arith, e)))

pub get-past : (hs : List Bool) (ts : List ℕ) (n : ℕ) → length hs ≤ n → get_or (moments_of hs ts) n None ≡ None
get-past [] ts n le = refl
get-past (h ∷ hs) [] n le = refl
get-past (h ∷ hs) (t ∷ ts) zero le = absurd (omega (arith, le))
get-past (h ∷ hs) (t ∷ ts) (suc n) le = get-past hs ts n (omega (arith, le))

-- the place of a number
pub number_within : (hs : List Bool) (ts : List ℕ) (seen : List (Option ℕ)) (n : ℕ) → length hs ≡ length ts → moments_of hs ts ≡ seen → n < length seen → n < length hs
number_within hs ts seen n e v lt = omega (arith, lt, length-moments hs ts e, ap (λ (l : List (Option ℕ)). length l) v)

-- a number of which it is told that it has one
pub get-some : (hs : List Bool) (ts : List ℕ) (n : ℕ) (b : Bool) (t : ℕ) → length hs ≡ length ts → n < length hs → b ≡ get_or hs n b → b ≡ true → t ≡ get_or ts n t
    → get_or (moments_of hs ts) n None ≡ Some t
get-some [] ts n b t e lt there told time = absurd (omega (arith, lt))
get-some (h ∷ hs) [] n b t e lt there told time = absurd (omega (arith, e))
get-some (h ∷ hs) (x ∷ ts) zero b t e lt there told time = ap (λ (k : Bool). cond k (Some x) None) (sym there ∙ told) ∙ ap (λ (k : ℕ). Some k) (sym time)
get-some (h ∷ hs) (x ∷ ts) (suc n) b t e lt there told time = get-some hs ts n b t (omega (arith, e)) (omega (arith, lt)) there told time

-- a number of which it is told that it has none
pub get-none : (hs : List Bool) (ts : List ℕ) (n : ℕ) (b : Bool) → length hs ≡ length ts → n < length hs → b ≡ get_or hs n b → b ≡ false
    → get_or (moments_of hs ts) n None ≡ None
get-none [] ts n b e lt there told = absurd (omega (arith, lt))
get-none (h ∷ hs) [] n b e lt there told = absurd (omega (arith, e))
get-none (h ∷ hs) (x ∷ ts) zero b e lt there told = ap (λ (k : Bool). cond k (Some x) None) (sym there ∙ told)
get-none (h ∷ hs) (x ∷ ts) (suc n) b e lt there told = get-none hs ts n b (omega (arith, e)) (omega (arith, lt)) there told

pub set-some : (hs : List Bool) (ts : List ℕ) (n t : ℕ) → length hs ≡ length ts → n < length hs → moments_of (set hs n true) (set ts n t) ≡ set (moments_of hs ts) n (Some t)
set-some [] ts n t e lt = absurd (omega (arith, lt))
set-some (h ∷ hs) [] n t e lt = absurd (omega (arith, e))
set-some (h ∷ hs) (x ∷ ts) zero t e lt = refl
set-some (h ∷ hs) (x ∷ ts) (suc n) t e lt = ap (λ (l : List (Option ℕ)). cond h (Some x) None ∷ l) (set-some hs ts n t (omega (arith, e)) (omega (arith, lt)))

pub set-none : (hs : List Bool) (ts : List ℕ) (n : ℕ) → length hs ≡ length ts → n < length hs → moments_of (set hs n false) ts ≡ set (moments_of hs ts) n None
set-none [] ts n e lt = absurd (omega (arith, lt))
set-none (h ∷ hs) [] n e lt = absurd (omega (arith, e))
set-none (h ∷ hs) (x ∷ ts) zero e lt = refl
set-none (h ∷ hs) (x ∷ ts) (suc n) e lt = ap (λ (l : List (Option ℕ)). cond h (Some x) None ∷ l) (set-none hs ts n (omega (arith, e)) (omega (arith, lt)))

pub push-none : (hs : List Bool) (ts : List ℕ) (t : ℕ) → length hs ≡ length ts → moments_of (hs ++ false ∷ []) (ts ++ t ∷ []) ≡ moments_of hs ts ++ None ∷ []
push-none [] [] t e = refl
push-none [] (x ∷ ts) t e = absurd (omega (arith, e))
push-none (h ∷ hs) [] t e = absurd (omega (arith, e))
push-none (h ∷ hs) (x ∷ ts) t e = ap (λ (l : List (Option ℕ)). cond h (Some x) None ∷ l) (push-none hs ts t (omega (arith, e)))

-- a number more, in the vectors as the calls leave them
pub pushed : (hs more : List Bool) (ts room longer : List ℕ) (seen : List (Option ℕ)) → length hs ≡ length ts → more ≡ hs ++ false ∷ [] → room ≡ ts → longer ≡ room ++ 0 ∷ []
    → moments_of hs ts ≡ seen → moments_of more longer ≡ seen ++ None ∷ []
pushed hs more ts room longer seen e there same times v =
    ap (λ (l : List Bool). moments_of l longer) there ∙ ap (λ (l : List ℕ). moments_of (hs ++ false ∷ []) l) (times ∙ ap (λ (l : List ℕ). l ++ 0 ∷ []) same)
    ∙ push-none hs ts 0 e ∙ ap (λ (l : List (Option ℕ)). l ++ None ∷ []) v
