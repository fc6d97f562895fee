-- The line that stands first among bytes.
use Rattle.std.proofs.Common.{◌≡◌, ◌≢◌, ◌∙◌, ◌<◌, ◌≤◌, ℕ, ◌+◌, ◌-◌, List, ◌∷◌, ◌++◌, length, take, drop, ap, sym, arith, length-append}
use Rattle.std.proofs.lemmas.List.{append_assoc, drop-drop, drop_at, length-take, take-append-drop, take-take, take_at, take_rest}
use Rattle.std.proofs.lemmas.List.Elements.{All-append, All-same, All-take}
use Rattle.oc2_wire_lines.specs.Lines.{BeginsWithLine, IsOneLine, most_line}
use Rattle.oc2_wire_site.specs.LineLinks.{IsTooLong}
use Rattle.oc2_wire_site.specs.LineSteps.{IsFirstLine}

-- bytes that are this line, a line feed and a rest begin with it
begins_at : (bytes line rest : List ℕ) (n : ℕ) → bytes ≡ line ++ (10 ∷ rest) → length line ≡ n → IsOneLine line → IsFirstLine n bytes
begins_at bytes line rest n is long one =
    let front : take n bytes ≡ line = ap (take n) is ∙ take_at line (10 ∷ rest) n long in
    let behind : drop (n + 1) bytes ≡ rest = sym (drop-drop 1 n bytes) ∙ ap (λ (l : List ℕ). drop 1 (drop n l)) is ∙ ap (drop 1) (drop_at line (10 ∷ rest) n long) in
    record {
      begins = record {
        is = is ∙ ap (λ (l : List ℕ). l ++ (10 ∷ rest)) (sym front) ∙ ap (λ (l : List ℕ). take n bytes ++ (10 ∷ l)) (sym behind);
        one_line = All-same (λ c. c ≢ 10) (take n bytes) line front one;
      };
      inside = omega (arith, ap length is, length-append line (10 ∷ rest), long);
    }

-- the first line ends where that of the part behind does, if the front has no line feed
pub first_line_is : (unread front rest : List ℕ) (seen : ℕ) → seen ≤ length unread → IsOneLine (take seen unread) → BeginsWithLine (take (length unread - seen) (drop seen unread)) front rest
    → IsFirstLine (seen + length front) unread
first_line_is unread front rest seen fits one begins =
    let part : drop seen unread ≡ front ++ (10 ∷ rest) = sym (take_rest unread seen) ∙ begins.is in
    let whole : unread ≡ (take seen unread ++ front) ++ (10 ∷ rest) =
    sym (take-append-drop seen unread) ∙ ap (λ (l : List ℕ). take seen unread ++ l) part ∙ sym (append_assoc (take seen unread) front (10 ∷ rest)) in
    begins_at unread (take seen unread ++ front) rest (seen + length front) whole
    (omega (arith, length-append (take seen unread) front, length-take seen unread, fits))
    (All-append (λ c. c ≢ 10) (take seen unread) front one begins.one_line)

pub no_line_is : (unread : List ℕ) (seen : ℕ) → IsOneLine (take seen unread) → IsOneLine (take (length unread - seen) (drop seen unread)) → IsOneLine unread
no_line_is unread seen one behind =
    let part : IsOneLine (drop seen unread) = All-same (λ c. c ≢ 10) (drop seen unread) (take (length unread - seen) (drop seen unread)) (sym (take_rest unread seen)) behind in
    All-same (λ c. c ≢ 10) unread (take seen unread ++ drop seen unread) (sym (take-append-drop seen unread)) (All-append (λ c. c ≢ 10) (take seen unread) (drop seen unread) one part)

-- ---- too long

pub too_long_line : (unread : List ℕ) (end : ℕ) → IsFirstLine end unread → most_line ≤ end → IsTooLong unread
too_long_line unread end first past = record {
  long = omega (arith, first.inside, past);
  one_line = All-same (λ c. c ≢ 10) (take 1_048_610 unread) (take 1_048_610 (take end unread)) (sym (take-take 1_048_610 end unread past)) (All-take (λ c. c ≢ 10) 1_048_610 (take end unread) first.begins.one_line);
}

pub too_long_rest : (unread : List ℕ) → IsOneLine unread → most_line < length unread → IsTooLong unread
too_long_rest unread one long = record { long = long; one_line = All-take (λ c. c ≢ 10) 1_048_610 unread one }
