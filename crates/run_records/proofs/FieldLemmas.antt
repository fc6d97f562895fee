-- A field that is read is the field that was written, and what was written is read again.
use Rattle.std.proofs.Common.{◌≡◌, ℕ, zero, suc, ◌^◌, ◌<◌, ◌≤◌, true, leb, ◌&&◌, List, [], ◌∷◌, ◌++◌, length, take, drop, Some, refl, sym, ap, subst, ◌∙◌, append_assoc, arith}
use Rattle.std.specs.Int.{Width, w16, w32, w64, byte_len, from_be_bytes, to_be_bytes}
use Rattle.std.specs.List.{flat_map, AllByRecursion}
use Rattle.std.specs.Str.{IsUtf8, is_utf8}
use Rattle.std.proofs.lemmas.Bool.{leb-true, le-leb, and_parts}
use Rattle.std.proofs.lemmas.Option.{none-some, same_Some, option_and_then_some, cond_some}
use Rattle.std.proofs.lemmas.Str.{IsUtf8-from_is_utf8, is_utf8-from_IsUtf8}
use Rattle.std.proofs.lemmas.List.{take_at, drop_at, take-append-drop, length-append, length-take}
use Rattle.std.proofs.lemmas.List.Concat.{flat_map-cons}
use Rattle.std.proofs.lemmas.Nat.{be_bytes_2, be_bytes_4, be_bytes_8, from_be_bytes-to_be_bytes_2, from_be_bytes-to_be_bytes_4, from_be_bytes-to_be_bytes_8}
use Rattle.run_records.specs.Layout.{string}
use Rattle.run_records.specs.Ranges.{most_text, IsShort}
use Rattle.run_records.specs.Fields.{number_at, small_at, string_at, text_at, strings_at}
use Rattle.run_records.proofs.Takes.{IsBytes, IsBytes-drop, IsBytes-take, IsBytes-rest, Takes, Takes-then}

-- ---- numbers

pub record IsWide (w : Width) (limit : ℕ) : Type 0 where
  pub len : (n : ℕ) → length (to_be_bytes w n) ≡ byte_len w
  pub back : (bytes : List ℕ) → length bytes ≡ byte_len w → IsBytes bytes → to_be_bytes w (from_be_bytes w bytes) ≡ bytes
  pub again : (n : ℕ) → n < limit → from_be_bytes w (to_be_bytes w n) ≡ n
  pub below : (bytes : List ℕ) → IsBytes bytes → from_be_bytes w bytes < limit

pub wide16 : IsWide w16 (2 ^ 16)
wide16 = record {
  len = λ n. refl;
  back = λ bytes len fits. be_bytes_2 bytes _ len fits refl;
  again = λ n lt. from_be_bytes-to_be_bytes_2 n lt;
  below = λ bytes fits. omega (arith, fits 0, fits 1);
}

pub wide32 : IsWide w32 (2 ^ 32)
wide32 = record {
  len = λ n. refl;
  back = λ bytes len fits. be_bytes_4 bytes _ len fits refl;
  again = λ n lt. from_be_bytes-to_be_bytes_4 n lt;
  below = λ bytes fits. omega (arith, fits 0, fits 1, fits 2, fits 3);
}

pub wide64 : IsWide w64 (2 ^ 64)
wide64 = record {
  len = λ n. refl;
  back = λ bytes len fits. be_bytes_8 bytes _ len fits refl;
  again = λ n lt. from_be_bytes-to_be_bytes_8 n lt;
  below = λ bytes fits. omega (arith, fits 0, fits 1, fits 2, fits 3, fits 4, fits 5, fits 6, fits 7);
}

pub number_takes : (w : Width) (limit : ℕ) (wide : IsWide w limit) (bytes : List ℕ) (x : ℕ × List ℕ) → IsBytes bytes → number_at w bytes ≡ Some x → Takes bytes (to_be_bytes w x.0) x.1 × (x.0 < limit)
unfolding number_at
number_takes w limit wide bytes x fits e =
    let front = take (byte_len w) bytes in
    let g = cond_some (leb (byte_len w) (length bytes)) (from_be_bytes w front, drop (byte_len w) bytes) x e in
    let long : byte_len w ≤ length bytes = leb-true _ _ g.0 in
    let back : to_be_bytes w (from_be_bytes w front) ≡ front = wide.back front (omega (arith, length-take (byte_len w) bytes)) (IsBytes-take (byte_len w) bytes fits) in
    let taken : Takes bytes (to_be_bytes w (from_be_bytes w front)) (drop (byte_len w) bytes) = record { parts = rw back (sym (take-append-drop (byte_len w) bytes)); rest_fits = IsBytes-drop (byte_len w) bytes fits } in
    subst (λ (y : ℕ × List ℕ). Takes bytes (to_be_bytes w y.0) y.1 × (y.0 < limit)) g.1 (taken, wide.below front (IsBytes-take (byte_len w) bytes fits))

pub number_again : (w : Width) (limit : ℕ) (wide : IsWide w limit) (n : ℕ) (rest : List ℕ) → n < limit → number_at w (to_be_bytes w n ++ rest) ≡ Some (n, rest)
unfolding number_at
number_again w limit wide n rest lt =
    let len = wide.len n in
    let long : leb (byte_len w) (length (to_be_bytes w n ++ rest)) ≡ true = le-leb _ _ (omega (arith, length-append (to_be_bytes w n) rest)) in
    rw (long, take_at (to_be_bytes w n) rest (byte_len w) len, drop_at (to_be_bytes w n) rest (byte_len w) len, wide.again n lt) refl

-- ---- numbers from 1 to 16

pub small_takes : (bytes : List ℕ) (x : ℕ × List ℕ) → IsBytes bytes → small_at bytes ≡ Some x → Takes bytes (x.0 ∷ []) x.1 × (1 ≤ x.0) × (x.0 ≤ 16)
unfolding small_at
small_takes [] x fits e = absurd (none-some x e)
small_takes (n ∷ bytes) x fits e =
    let g = cond_some _ (n, bytes) x e in
    let tests = and_parts _ _ g.0 in
    subst (λ (y : ℕ × List ℕ). Takes (n ∷ bytes) (y.0 ∷ []) y.1 × (1 ≤ y.0) × (y.0 ≤ 16)) g.1
    (record { parts = refl; rest_fits = IsBytes-rest n bytes fits }, leb-true _ _ tests.0, leb-true _ _ tests.1)

pub small_again : (n : ℕ) (rest : List ℕ) → 1 ≤ n → n ≤ 16 → small_at (n ∷ rest) ≡ Some (n, rest)
unfolding small_at
small_again n rest low high = rw (le-leb 1 n low, le-leb n 16 high) refl

-- ---- texts

pub string_takes : (most : ℕ) (bytes : List ℕ) (x : List ℕ × List ℕ) → IsBytes bytes → string_at most bytes ≡ Some x → Takes bytes (string x.0) x.1 × (length x.0 ≤ most)
unfolding string_at
string_takes most bytes x fits e =
    option_and_then_some _ (number_at w32 bytes) x e λ n read e₁.
    let t = number_takes w32 (2 ^ 32) wide32 bytes n fits read in
    let g = cond_some (leb n.0 most && leb n.0 (length n.1)) (take n.0 n.1, drop n.0 n.1) x e₁ in
    let tests = and_parts (leb n.0 most) (leb n.0 (length n.1)) g.0 in
    let long : n.0 ≤ length n.1 = leb-true _ _ tests.1 in
    let len : length (take n.0 n.1) ≡ n.0 = omega (arith, length-take n.0 n.1) in
    let second : Takes n.1 (take n.0 n.1) (drop n.0 n.1) = record { parts = sym (take-append-drop n.0 n.1); rest_fits = IsBytes-drop n.0 n.1 t.0.rest_fits } in
    let both = Takes-then bytes (to_be_bytes w32 n.0) n.1 (take n.0 n.1) (drop n.0 n.1) t.0 second in
    let whole : Takes bytes (string (take n.0 n.1)) (drop n.0 n.1) = subst (λ (k : ℕ). Takes bytes (to_be_bytes w32 k ++ take n.0 n.1) (drop n.0 n.1)) (sym len) both in
    subst (λ (p : List ℕ × List ℕ). Takes bytes (string p.0) p.1 × (length p.0 ≤ most)) g.1 (whole, omega (arith, leb-true _ _ tests.0))

pub string_again : (most : ℕ) (text rest : List ℕ) → most < 2 ^ 32 → length text ≤ most → string_at most (string text ++ rest) ≡ Some (text, rest)
unfolding string_at
string_again most text rest small fits =
    let long : leb (length text) (length (text ++ rest)) ≡ true = le-leb _ _ (omega (arith, length-append text rest)) in
    let read : number_at w32 (string text ++ rest) ≡ Some (length text, text ++ rest) =
    ap (number_at w32) (append_assoc (to_be_bytes w32 (length text)) text rest) ∙ number_again w32 (2 ^ 32) wide32 (length text) (text ++ rest) (omega arith) in
    rw (read, le-leb (length text) most fits, long, take_at text rest (length text) refl, drop_at text rest (length text) refl) refl

pub text_takes : (most : ℕ) (bytes : List ℕ) (x : List ℕ × List ℕ) → IsBytes bytes → text_at most bytes ≡ Some x → Takes bytes (string x.0) x.1 × (length x.0 ≤ most) × IsUtf8 x.0
unfolding text_at
text_takes most bytes x fits e =
    option_and_then_some _ (string_at most bytes) x e λ text read e₁.
    let t = string_takes most bytes text fits read in
    let g = cond_some (is_utf8 text.0) text x e₁ in
    subst (λ (p : List ℕ × List ℕ). Takes bytes (string p.0) p.1 × (length p.0 ≤ most) × IsUtf8 p.0) g.1 (t.0, t.1, IsUtf8-from_is_utf8 text.0 g.0)

pub text_again : (most : ℕ) (text rest : List ℕ) → most < 2 ^ 32 → length text ≤ most → IsUtf8 text → text_at most (string text ++ rest) ≡ Some (text, rest)
unfolding text_at
text_again most text rest small fits utf8 =
    rw (string_again most text rest small fits, is_utf8-from_IsUtf8 text utf8) refl

-- ---- lists of texts

pub strings_take : (n : ℕ) (bytes : List ℕ) (x : List (List ℕ) × List ℕ) → IsBytes bytes → strings_at n bytes ≡ Some x → Takes bytes (flat_map string x.0) x.1 × (length x.0 ≡ n) × AllByRecursion IsShort x.0
unfolding strings_at
strings_take zero bytes x fits e =
    subst (λ (y : List (List ℕ) × List ℕ). Takes bytes (flat_map string y.0) y.1 × (length y.0 ≡ 0) × AllByRecursion IsShort y.0) (same_Some _ _ e) (record { parts = refl; rest_fits = fits }, refl, tt)
strings_take (suc n) bytes x fits e =
    option_and_then_some _ (string_at most_text bytes) x e λ first read e₁.
    option_and_then_some _ (strings_at n first.1) x e₁ λ others more e₂.
    let t = string_takes most_text bytes first fits read in
    let later = strings_take n first.1 others t.0.rest_fits more in
    let both = Takes-then bytes (string first.0) first.1 (flat_map string others.0) others.1 t.0 later.0 in
    subst (λ (y : List (List ℕ) × List ℕ). Takes bytes (flat_map string y.0) y.1 × (length y.0 ≡ suc n) × AllByRecursion IsShort y.0) (same_Some _ _ e₂) (rw flat_map-cons both, ap suc later.1, (t.1, later.2))

pub strings_again : (texts : List (List ℕ)) (rest : List ℕ) → AllByRecursion IsShort texts → strings_at (length texts) (flat_map string texts ++ rest) ≡ Some (texts, rest)
unfolding strings_at
strings_again [] rest fits = refl
strings_again (text ∷ texts) rest fits =
    let regrouped : flat_map string (text ∷ texts) ++ rest ≡ string text ++ (flat_map string texts ++ rest) = ap (λ (x : List ℕ). x ++ rest) (flat_map-cons string text texts) ∙ append_assoc (string text) (flat_map string texts) rest in
    ap (strings_at (suc (length texts))) regrouped ∙ rw (string_again most_text text (flat_map string texts ++ rest) (omega arith) fits.0, strings_again texts rest fits.1) refl
