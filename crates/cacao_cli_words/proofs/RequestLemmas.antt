-- What the first word and the words behind it ask for.
use Rattle.std.proofs.Common.{◌≡◌, ◌∙◌, refl, sym, ap, Bool, true, false, List, [], ◌∷◌, Option, Some, None, codes}
use Rattle.std.specs.Prelude.{option_map, option_and_then}
use Rattle.std.specs.Str.{bytes_eq}
use Rattle.std.specs.Prelude.{if◌then◌else◌}
use Rattle.cacao_cli_words.specs.Parts.{names_asks, plain_asks}
use Rattle.cacao_cli_words.specs.Requests.{Request, lists_rules, rehearses, shadows, agent_number, positions_number, canon_asks, check_asks, show_asks, decide_asks, number_asks, audit_asks, request}
use Rattle.cacao_cli_words.specs.Words.{Text, Reading, read}
use Rattle.cacao_cli_words.proofs.ClapRules.{same}

via : (f : List Text → Option Request) (o : Option Reading) → option_and_then f (option_map (λ (r : Reading). r.names) o) ≡ option_and_then (λ (r : Reading). f r.names) o
via f None = refl
via f (Some r) = refl

swap : (f g : List Text → Option Request) (o : Option (List Text)) → ((names : List Text) → f names ≡ g names) → option_and_then f o ≡ option_and_then g o
swap f g None h = refl
swap f g (Some names) h = h names

nothing : List Text → Option Request
nothing names = None

none : (o : Option Reading) → None ≡ option_and_then (λ (r : Reading). nothing r.names) o
unfolding nothing
none None = refl
none (Some r) = refl

request-audit : (first : Text) (words : List Text) → bytes_eq first (codes "audit") ≡ true → option_and_then (λ (r : Reading). audit_asks r.names) (read [] words) ≡ request (first ∷ words)
request-audit first words is = ap (λ (word : Text). request (word ∷ words)) (sym (same first (codes "audit") is))

module _ (first : Text) (words : List Text) (not_run : bytes_eq first (codes "run") ≡ false) (not_audit : bytes_eq first (codes "audit") ≡ false) where
  abbrev Goal : Type 0
  Goal = option_and_then (plain_asks first) (option_map (λ (r : Reading). r.names) (read [] words)) ≡ request (first ∷ words)

  case : (f : List Text → Option Request) → ((names : List Text) → plain_asks first names ≡ f names) → request (first ∷ words) ≡ option_and_then (λ (r : Reading). f r.names) (read [] words) → Goal
  case f plain asks = swap (plain_asks first) f (option_map (λ (r : Reading). r.names) (read [] words)) plain ∙ via f (read [] words) ∙ sym asks

  shadow : bytes_eq first (codes "canon") ≡ false → bytes_eq first (codes "check") ≡ false → bytes_eq first (codes "show") ≡ false → bytes_eq first (codes "rules") ≡ false → bytes_eq first (codes "decide") ≡ false → bytes_eq first (codes "rehearse") ≡ false
      → (b : Bool) → b ≡ bytes_eq first (codes "shadow") → Goal
  shadow a b d e f g true h = case (number_asks agent_number shadows) (λ names. rw (a, b, d, e, f, g, sym h) refl) (rw (a, b, not_run, d, e, f, g, sym h) refl)
  shadow a b d e f g false h = case nothing (λ names. rw (a, b, d, e, f, g, sym h) (unfold nothing in refl)) (rw (a, b, not_run, d, e, f, g, sym h, not_audit) (none (read [] words)))

  rehearse : bytes_eq first (codes "canon") ≡ false → bytes_eq first (codes "check") ≡ false → bytes_eq first (codes "show") ≡ false → bytes_eq first (codes "rules") ≡ false → bytes_eq first (codes "decide") ≡ false
      → (b : Bool) → b ≡ bytes_eq first (codes "rehearse") → Goal
  rehearse a b d e f true h = case (number_asks positions_number rehearses) (λ names. rw (a, b, d, e, f, sym h) refl) (rw (a, b, not_run, d, e, f, sym h) refl)
  rehearse a b d e f false h = shadow a b d e f (sym h) (bytes_eq first (codes "shadow")) refl

  decide : bytes_eq first (codes "canon") ≡ false → bytes_eq first (codes "check") ≡ false → bytes_eq first (codes "show") ≡ false → bytes_eq first (codes "rules") ≡ false → (b : Bool) → b ≡ bytes_eq first (codes "decide") → Goal
  decide a b d e true h = case decide_asks (λ names. rw (a, b, d, e, sym h) refl) (rw (a, b, not_run, d, e, sym h) refl)
  decide a b d e false h = rehearse a b d e (sym h) (bytes_eq first (codes "rehearse")) refl

  rules : bytes_eq first (codes "canon") ≡ false → bytes_eq first (codes "check") ≡ false → bytes_eq first (codes "show") ≡ false → (b : Bool) → b ≡ bytes_eq first (codes "rules") → Goal
  rules a b d true h = case (number_asks agent_number lists_rules) (λ names. rw (a, b, d, sym h) refl) (rw (a, b, not_run, d, sym h) refl)
  rules a b d false h = decide a b d (sym h) (bytes_eq first (codes "decide")) refl

  show : bytes_eq first (codes "canon") ≡ false → bytes_eq first (codes "check") ≡ false → (b : Bool) → b ≡ bytes_eq first (codes "show") → Goal
  show a b true h = case show_asks (λ names. rw (a, b, sym h) refl) (rw (a, b, not_run, sym h) refl)
  show a b false h = rules a b (sym h) (bytes_eq first (codes "rules")) refl

  check : bytes_eq first (codes "canon") ≡ false → (b : Bool) → b ≡ bytes_eq first (codes "check") → Goal
  check a true h = case check_asks (λ names. rw (a, sym h) refl) (rw (a, sym h) refl)
  check a false h = show a (sym h) (bytes_eq first (codes "show")) refl

  canon : (b : Bool) → b ≡ bytes_eq first (codes "canon") → Goal
  canon true h = case canon_asks (λ names. rw (sym h) refl) (rw (sym h) refl)
  canon false h = check (sym h) (bytes_eq first (codes "check")) refl

  request-plain : Goal
  request-plain = canon (bytes_eq first (codes "canon")) refl

-- with `audit` or without
pub request-names : (first : Text) (words : List Text) → bytes_eq first (codes "run") ≡ false → option_and_then (names_asks first) (option_map (λ (r : Reading). r.names) (read [] words)) ≡ request (first ∷ words)
request-names first words not_run = go (bytes_eq first (codes "audit")) refl
  where
    at : (b : Bool) → b ≡ bytes_eq first (codes "audit") → (names : List Text) → names_asks first names ≡ (if b then audit_asks names else plain_asks first names)
    at b is names = ap (λ (b : Bool). if b then audit_asks names else plain_asks first names) (sym is)

    go : (b : Bool) → b ≡ bytes_eq first (codes "audit") → option_and_then (names_asks first) (option_map (λ (r : Reading). r.names) (read [] words)) ≡ request (first ∷ words)
    go true is = swap (names_asks first) audit_asks (option_map (λ (r : Reading). r.names) (read [] words)) (at true is) ∙ via audit_asks (read [] words) ∙ request-audit first words (sym is)
    go false is = swap (names_asks first) (plain_asks first) (option_map (λ (r : Reading). r.names) (read [] words)) (at false is) ∙ request-plain first words not_run (sym is)
