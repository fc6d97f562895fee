-- What settles the status of a start.
use Rattle.std.proofs.Common.{◌≡◌, inl, inr, ◌∙◌, refl, sym, subst, arith, ℕ, List, [], ◌∷◌, false}
use Rattle.std.specs.Prelude.{nat_eq}
use Rattle.std.specs.List.{list_any}
use Rattle.std.proofs.lemmas.Option.{none-some}
use Rattle.serde_json.specs.Data.{Data}
use Rattle.cacao_site.specs.View.{SiteView}
use Rattle.cacao_cli_ends.specs.FileCauses.{LacksTree}
use Rattle.cacao_cli_status_laws.specs.Exact.{HasStatus, IsSettled}
use Rattle.cacao_cli_ends.specs.Comes.{IsOneOf}
use Rattle.cacao_cli_ends.specs.Files.{NamedText}
use Rattle.cacao_cli_session_laws.specs.Holding.{HasBadAnswer, IsAcceptedStart, IsRefusedStart}
use Rattle.cacao_cli_ends.specs.Work.{Start, starts}
use Rattle.cacao_cli_ends.proofs.TreeCases.{Roots, Treeless}
use Rattle.cacao_cli_ends.proofs.StatusLists.{not-among, session_statuses}
use Rattle.cacao_cli_session_laws.proofs.HoldLemmas.{holds-status}
use Rattle.cacao_cli_session_laws.proofs.JudgedLemmas.{bad-answers, came-accepted, refused-accepted}

-- ---- trees

pub lacks-tree : (texts : List NamedText) → Treeless texts → LacksTree texts
lacks-tree [] h = h
lacks-tree (text ∷ texts) (inl none) = inl none
lacks-tree (text ∷ texts) (inr h) = inr (lacks-tree texts h)

pub roots-lack : (texts : List NamedText) (roots : List Data) → Roots texts roots → LacksTree texts → ⊥
roots-lack [] roots r h = h
roots-lack (text ∷ texts) [] r h = r
roots-lack (text ∷ texts) (root ∷ roots) r (inl none) = none-some root (sym none ∙ r.0)
roots-lack (text ∷ texts) (root ∷ roots) r (inr h) = roots-lack texts roots r.1 h

module _ (start : Start) {old new : SiteView} {n : ℕ} where
  -- the status of a session is one of theirs, and its texts are accepted
  pub settled-listed : IsSettled start old new n → IsOneOf n session_statuses
  settled-listed h = subst (λ (m : ℕ). IsOneOf m session_statuses) (sym h.is)
      (holds-status h.came.session.given start.run start.most h.came.session.answers old h.came.between h.last h.came.session.holds)

  not-settled : (m : ℕ) → list_any (nat_eq m) session_statuses ≡ false → IsSettled start old new n → n ≡ m → ⊥
  not-settled m none h e = not-among m session_statuses none (subst (λ (k : ℕ). IsOneOf k session_statuses) e (settled-listed h))

  pub start-refused : HasStatus (starts start) old new n → n ≡ 1 → IsRefusedStart start
  start-refused (inl h) e = absurd (omega (arith, e, h.1))
  start-refused (inr (inl h)) e = h.0
  start-refused (inr (inr h)) e = absurd (not-settled 1 refl h e)

  pub refused-start : IsRefusedStart start → HasStatus (starts start) old new n → n ≡ 1
  refused-start r (inl h) = absurd (bad-answers start h.0 r.0)
  refused-start r (inr (inl h)) = h.1
  refused-start r (inr (inr h)) = absurd (refused-accepted start r (came-accepted start old new h.last h.came))

  pub start-bad : HasStatus (starts start) old new n → n ≡ 5 → HasBadAnswer start
  start-bad (inl h) e = h.0
  start-bad (inr (inl h)) e = absurd (omega (arith, e, h.1))
  start-bad (inr (inr h)) e = absurd (not-settled 5 refl h e)

  pub bad-start : HasBadAnswer start → HasStatus (starts start) old new n → n ≡ 5
  bad-start b (inl h) = h.1
  bad-start b (inr (inl h)) = absurd (bad-answers start b h.0.0)
  bad-start b (inr (inr h)) = absurd (bad-answers start b (came-accepted start old new h.last h.came).0)

  pub start-other : (m : ℕ) → HasStatus (starts start) old new n → n ≡ m → (5 ≡ m → ⊥) → (1 ≡ m → ⊥) → list_any (nat_eq m) session_statuses ≡ false → ⊥
  start-other m (inl h) e a b c = a (sym h.1 ∙ e)
  start-other m (inr (inl h)) e a b c = b (sym h.1 ∙ e)
  start-other m (inr (inr h)) e a b c = not-settled m c h e

  pub start-settled : HasStatus (starts start) old new n → (n ≡ 5 → ⊥) → (n ≡ 1 → ⊥) → IsSettled start old new n
  start-settled (inl h) a b = absurd (a h.1)
  start-settled (inr (inl h)) a b = absurd (b h.1)
  start-settled (inr (inr h)) a b = h

  pub accepted-settled : IsAcceptedStart start → HasStatus (starts start) old new n → IsSettled start old new n
  accepted-settled a (inl h) = absurd (bad-answers start h.0 a.0)
  accepted-settled a (inr (inl h)) = absurd (refused-accepted start h.0 a)
  accepted-settled a (inr (inr h)) = h
