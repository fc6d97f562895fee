-- The statuses of a call that came to a link, and the count of faults of its peers.
use Rattle.std.proofs.Common.{◌≡◌, inl, inr, ◌∙◌, refl, sym, ap, subst, arith, ℕ, ◌≤◌, Bool, true, false, List, [], ◌∷◌}
use Rattle.std.specs.Prelude.{if◌then◌else◌}
use Rattle.cacao_site.specs.Counts.{Rose, count_after, next_count}
use Rattle.cacao_site.specs.View.{SiteView}
use Rattle.flow_core_rules.specs.Givens.{Given}
use Rattle.flow_engine_answers.specs.declared.answers.OperatorAnswer.{OperatorAnswer}
use Rattle.oc2_wire_link.specs.Peering.{PeersView}
use Rattle.cacao_cli_ends.specs.Comes.{IsOneOf}
use Rattle.cacao_cli_ends.specs.Ends.{End, peers_failed, status_of}
use Rattle.cacao_cli_ends.proofs.StatusLists.{not-among, session_statuses, widen}
use Rattle.cacao_cli_peers.specs.Pairing.{PairsSo}
use Rattle.cacao_cli_peers.specs.PeerCounts.{behind_close, comes_before_peers}
use Rattle.cacao_cli_peers.proofs.OverLemmas.{over-listed}

-- the statuses of a call that came to a link
abbrev pub link_statuses : List ℕ
link_statuses = 0 ∷ 6 ∷ 7 ∷ 8 ∷ 9 ∷ 10 ∷ 11 ∷ 12 ∷ 13 ∷ 14 ∷ 15 ∷ 16 ∷ 17 ∷ []

-- a close that fails adds no other status than its own
pub behind-listed : (fails : Bool) (end : End) (ms : List ℕ) → IsOneOf 17 ms → IsOneOf (status_of end) ms → IsOneOf (status_of (behind_close fails end)) ms
behind-listed false end ms failed h = h
behind-listed true end ms failed h = go (comes_before_peers end)
  where
    go : (b : Bool) → IsOneOf (status_of (if b then end else peers_failed)) ms
    go true = h
    go false = failed

-- ---- the count of faults of the peers

pub failed-rose : (n m : ℕ) → m ≡ next_count n → Rose n m
failed-rose n m e = omega (arith, e)

pub closed-rose : (n k m : ℕ) → m ≡ next_count (count_after n k) → Rose n m
closed-rose n k m e = omega (arith, e)

pub linked-rose : (n k m : ℕ) → 1 ≤ k → m ≡ count_after n k → Rose n m
linked-rose n k m le e = omega (arith, le, e)

-- ---- a session

module _ (given : Given) (run most : ℕ) (answers : List OperatorAnswer) (before after : PeersView) (old new : SiteView) (last : End) where
  pub pairs-listed : PairsSo given run most answers before after old new last → IsOneOf (status_of last) link_statuses
  pairs-listed (inl h) = subst (λ (e : End). IsOneOf (status_of e) link_statuses) (sym h.ends) (inr (inr (inr (inr (inr (inr (inr (inr (inr (inr (inr (inr (inl refl)))))))))))))
  pairs-listed (inr h) = subst (λ (e : End). IsOneOf (status_of e) link_statuses) (sym h.ends)
      (behind-listed h.fails h.how link_statuses (inr (inr (inr (inr (inr (inr (inr (inr (inr (inr (inr (inr (inl refl)))))))))))))
      (widen (status_of h.how) session_statuses link_statuses refl (over-listed given run most answers h.first.site h.wire.site h.how h.session)))

  pub pairs-rose : PairsSo given run most answers before after old new last → status_of last ≡ 17 → Rose before.faults after.faults
  pairs-rose (inl h) e = failed-rose before.faults after.faults h.calls.1
  pairs-rose (inr h) e = go h.fails h.closes.1 h.ends
    where
      go : (b : Bool) → after.faults ≡ (if b then next_count (count_after h.between.faults h.wire.lines.link.faults) else count_after h.between.faults h.wire.lines.link.faults)
          → last ≡ behind_close b h.how → Rose before.faults after.faults
      go true is ends = closed-rose before.faults h.wire.lines.link.faults after.faults (is ∙ ap (λ (n : ℕ). next_count (count_after n h.wire.lines.link.faults)) h.starts.1)
      go false is ends = absurd (not-among 17 session_statuses refl
          (subst (λ (n : ℕ). IsOneOf n session_statuses) (sym (ap status_of ends) ∙ e) (over-listed given run most answers h.first.site h.wire.site h.how h.session)))
