-- An entry more.
use Rattle.std.proofs.Common.{◌≡◌, ℕ, ◌+◌, ◌≤◌, List, [], ◌∷◌, ◌++◌, length, All, refl, suc, ◌∙◌, ap, arith}
use Rattle.std.proofs.lemmas.Grind.{common_steps}
use Rattle.std.proofs.lemmas.List.{map-append}
use Rattle.cacao_site_log.specs.declared.entry.Entry.{Entry}
use Rattle.cacao_site_log.specs.declared.entry.Entry.TheVariants.{Looked, Wrote, Tried, Synced}
use Rattle.cacao_site_log.specs.Entries.{call_of, calls_of, FitsIn}
use Rattle.cacao_site_log.specs.Replay.{wrote}
use Rattle.cacao_site_log.proofs.LineLemmas.{range-append, range-added}

pub length-calls_of : (bytes : List ℕ) (entries : List Entry) → length (calls_of bytes entries) ≡ length entries
length-calls_of bytes [] = grind arith
length-calls_of bytes (entry ∷ later) = grind (arith, common_steps, length-calls_of bytes later)

pub calls_of-push : (bytes : List ℕ) (entries : List Entry) (entry : Entry) → calls_of bytes (entries ++ entry ∷ []) ≡ calls_of bytes entries ++ call_of bytes entry ∷ []
calls_of-push bytes entries entry = map-append (call_of bytes) entries (entry ∷ [])

call_of-more : (bytes more : List ℕ) (n : ℕ) (entry : Entry) → n ≤ length bytes → FitsIn n entry → call_of (bytes ++ more) entry ≡ call_of bytes entry
call_of-more bytes more n Looked le h = refl
call_of-more bytes more n (Wrote file at start end) le h = ap (wrote file at) (range-append bytes more start end h.0 (omega (arith, h.1)))
call_of-more bytes more n (Tried file at size) le h = refl
call_of-more bytes more n (Synced file) le h = refl

pub calls_of-more : (bytes more : List ℕ) (n : ℕ) (entries : List Entry) → n ≤ length bytes → All (FitsIn n) entries → calls_of (bytes ++ more) entries ≡ calls_of bytes entries
calls_of-more bytes more n [] le h = refl
calls_of-more bytes more n (entry ∷ later) le h =
    λ i. call_of-more bytes more n entry le (h 0 entry (omega arith)) i ∷ calls_of-more bytes more n later le (λ k d lt. h (suc k) d (omega arith)) i

pub calls_of-write : (bytes more : List ℕ) (n : ℕ) (entries : List Entry) (file at start end : ℕ) → n ≡ length bytes → All (FitsIn n) entries → start ≡ n → end ≡ n + length more → calls_of (bytes ++ more) (entries ++ Wrote file at start end ∷ []) ≡ calls_of bytes entries ++ wrote file at more ∷ []
calls_of-write bytes more n entries file at start end is h s e =
    calls_of-push (bytes ++ more) entries (Wrote file at start end)
    ∙ (λ i. calls_of-more bytes more n entries (omega arith) h i ++ wrote file at (range-added bytes more start end (omega arith) (omega arith) i) ∷ [])

pub ruleset entry_count = (length-calls_of, calls_of-push)
