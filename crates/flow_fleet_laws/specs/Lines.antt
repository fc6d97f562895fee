-- Promise: Lines that are no record's, of any run, whether runs' lines have numbers before them or not.
use Rattle.std.specs.Prelude.{◌≡◌, ◌≢◌, ℕ, ◌==◌, nat_eq, false, true, List, ◌∷◌, ◌++◌}
use Rattle.std.specs.List.{list_all, list_any}
use Rattle.flow_core_rules.specs.Laws.{IsRecordLine, is_digit, word_starts}
use Rattle.flow_fleet_laws.specs.Speeches.{head_of}

-- the line does not look like a record's, nor what stands behind a run's number
pub record IsNoRecords (line : List ℕ) : Type 0 where
  pub bare : IsRecordLine line → ⊥
  pub numbered : (run : ℕ) (text : List ℕ) → IsRecordLine text → line ≢ head_of run ++ text

-- Such is a line that begins with no digit; that has no space behind its first digits, or no digit behind that space; that has no
-- space behind its second digits, or behind that space a character that is no digit and begins no record's word.
pub record OtherLines : Type 0 where
  pub no_number : (c : ℕ) (rest : List ℕ) → is_digit c ≡ false → IsNoRecords (c ∷ rest)
  pub no_space : (first : List ℕ) (c : ℕ) (rest : List ℕ) → list_all is_digit first ≡ true → is_digit c ≡ false
      → (c == 32) ≡ false → IsNoRecords (first ++ c ∷ rest)
  pub no_second_number : (first : List ℕ) (c : ℕ) (rest : List ℕ) → list_all is_digit first ≡ true → is_digit c ≡ false
      → IsNoRecords (first ++ 32 ∷ c ∷ rest)
  pub no_second_space : (first second : List ℕ) (c : ℕ) (rest : List ℕ) → list_all is_digit first ≡ true
      → list_all is_digit second ≡ true → is_digit c ≡ false → (c == 32) ≡ false
      → IsNoRecords (first ++ 32 ∷ (second ++ c ∷ rest))
  pub no_word : (first second : List ℕ) (c : ℕ) (rest : List ℕ) → list_all is_digit first ≡ true
      → list_all is_digit second ≡ true → is_digit c ≡ false → list_any (nat_eq c) word_starts ≡ false
      → IsNoRecords (first ++ 32 ∷ (second ++ 32 ∷ c ∷ rest))
