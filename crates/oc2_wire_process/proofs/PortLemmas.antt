-- The port that a line says.
use Rattle.std.proofs.Common.{◌≡◌, ◌≢◌, ◌∙◌, ℕ, List, ◌++◌, Some, None, ap, sym, arith}
use Rattle.std.specs.Prelude.{codes}
use Rattle.std.specs.Fmt.{decimal}
use Rattle.std.proofs.lemmas.List.{append_cancel_left}
use Rattle.std.proofs.lemmas.Option.{none-some, same_Some}
use Rattle.base_decimals.specs.Numbers.{number}
use Rattle.base_decimals.proofs.Decimals.{number_some, number_sound}
use Rattle.oc2_wire_process.specs.PortLine.{SaysPort}

-- what is said has the number that stands behind the word
pub said : (line digits : List ℕ) (port : ℕ) → line ≡ codes "port " ++ digits → SaysPort line port → number 65_535 digits ≡ Some port
said line digits port is says =
    let same : digits ≡ decimal port = append_cancel_left (codes "port ") digits (decimal port) (sym is ∙ says.is) in
    number_some 65_535 port digits says.high (omega arith) same

pub none_said : (line digits : List ℕ) → line ≡ codes "port " ++ digits → number 65_535 digits ≡ None → (port : ℕ) → SaysPort line port → ⊥
none_said line digits is none port says = none-some _ (sym none ∙ said line digits port is says)

pub zero_unsaid : (line digits : List ℕ) (found : ℕ) → line ≡ codes "port " ++ digits → number 65_535 digits ≡ Some found → found ≡ 0 → (port : ℕ) → SaysPort line port → ⊥
zero_unsaid line digits found is some zero port says =
    let same : found ≡ port = same_Some _ _ (sym some ∙ said line digits port is says) in
    absurd (omega (arith, same, zero, says.low))

pub says : (line digits : List ℕ) (port : ℕ) → line ≡ codes "port " ++ digits → number 65_535 digits ≡ Some port → port ≢ 0 → SaysPort line port
says line digits port is some other =
    let sound = number_sound 65_535 port digits some in
    record { is = is ∙ ap (λ d. codes "port " ++ d) sound.0; low = omega (arith, other); high = sound.1 }
