-- A failed disk and a line that could not be said, of a call that asks for a peer.
use Rattle.std.proofs.Common.{◌≡◌, ◌⊎◌, inl, inr, ◌∙◌, refl, sym, ap, subst, arith, ℕ, Bool, true, false, List, [], ◌∷◌, Option, Some, None, Result, Ok, Err}
use Rattle.std.specs.Prelude.{if◌then◌else◌}
use Rattle.cacao_site.specs.Counts.{Rose, next_count}
use Rattle.cacao_site.specs.View.{SiteView}
use Rattle.flow_core_rules.specs.Givens.{Given}
use Rattle.flow_engine_answers.specs.declared.answers.OperatorAnswer.{OperatorAnswer}
use Rattle.cacao_cli_peers.specs.Answering.{Served}
use Rattle.cacao_cli_peers.specs.WireError.{WireError}
use Rattle.cacao_cli_peers.specs.WireError.TheVariants as error
use Rattle.oc2_wire_link.specs.Peering.{PeersView}
use Rattle.oc2_wire_site.specs.Wires.{WireView}
use Rattle.cacao_cli_words.specs.Requests.{PeerRequest, pairs, serves}
use Rattle.cacao_cli_ends.specs.Asked.{runs}
use Rattle.cacao_cli_ends.specs.Comes.{IsOneOf}
use Rattle.cacao_cli_ends.specs.Ends.{End, disk_failed, no_memory, peers_failed, status_of, text_of, unsaid}
use Rattle.cacao_cli_ends.specs.Files.{ShelfCall}
use Rattle.cacao_cli_ends.specs.Lines.{FailsToSay, Tells}
use Rattle.cacao_cli_ends.proofs.EndCases.{eight-is, nine-or-not}
use Rattle.cacao_cli_ends.proofs.EndLemmas.{no-more}
use Rattle.cacao_cli_ends.proofs.StatusLists.{not-among}
use Rattle.cacao_cli_ends.proofs.UnsaidLemmas.{last-disk, last-unsaid}
use Rattle.cacao_cli_peers.specs.FilterServing.{Accepts, FailsToAccept, LeavesPort, SaysPort, ServesLink, ServesSo, served_end}
use Rattle.cacao_cli_peers.specs.Pairing.{HoldsPair, Paired, PairsSo}
use Rattle.cacao_cli_peers.specs.PeerCounts.{behind_close, comes_before_peers}
use Rattle.cacao_cli_peers.proofs.OutcomeLemmas.{Outcome, quiet, shelf_fails, holds, quiet_statuses, goes-performed, pair-outcome}
use Rattle.cacao_cli_peers.proofs.OverLemmas.{over-failed, over-said, over-unsaid, wire-eight}
use Rattle.cacao_cli_peers.proofs.ServeLemmas.{served-said}
use Rattle.cacao_cli.specs.WithPeers.{EndsWithPeer, TellsPeerFaults}
use Rattle.cacao_cli.proofs.PeerLemmas.{told-as}

-- ---- behind a close

-- a status that the close leaves as it was is that of what came before it
behind-status : (n : ℕ) → (n ≡ 17 → ⊥) → (fails : Bool) (how : End) → status_of (behind_close fails how) ≡ n → status_of how ≡ n
behind-status n other false how e = e
behind-status n other true how e = go (comes_before_peers how) e
  where
    go : (b : Bool) → status_of (if b then how else peers_failed) ≡ n → status_of how ≡ n
    go true is = is
    go false is = absurd (other (sym is))

rose-as : (a b c d : ℕ) → a ≡ c → b ≡ d → Rose a b → Rose c d
rose-as a b c d p q rose = omega (arith, p, q, rose)

-- what a count did up to the last line, and by it
rose-at-last : (a b c : ℕ) → (b ≡ a) ⊎ Rose a b → c ≡ next_count b → Rose a c
rose-at-last a b c (inl same) is = omega (arith, same, is)
rose-at-last a b c (inr rose) is = omega (arith, rose, is)

eight-told : (last : End) (mid new : SiteView) (answer : ℕ) → Tells last mid new answer → answer ≡ 8 → status_of last ≡ 8
eight-told last mid new answer tells e =
    sym (told-as last mid new answer tells (λ c. not-among 8 (9 ∷ 10 ∷ []) refl (subst (λ (n : ℕ). IsOneOf n (9 ∷ 10 ∷ [])) e c))) ∙ e

-- a call that answers 9 could not say its last line, or ended so before it
nine-told : (last : End) (mid new : SiteView) (answer before : ℕ) → Tells last mid new answer → answer ≡ 9 → (mid.counts.unsaid ≡ before) ⊎ Rose before mid.counts.unsaid → (last ≡ unsaid → Rose before mid.counts.unsaid) → Rose before new.counts.unsaid
nine-told last mid new answer before tells e grew ended = go (nine-or-not last)
  where
    go : (last ≡ unsaid) ⊎ (status_of last ≡ 9 → ⊥) → Rose before new.counts.unsaid
    go (inl is) = subst (λ (s : SiteView). Rose before s.counts.unsaid) (sym (no-more last unsaid mid new answer is refl tells).0) (ended is)
    go (inr other) = rose-at-last before mid.counts.unsaid new.counts.unsaid grew (last-unsaid last (text_of last) mid new answer other tells e)

-- ---- `pair`

module _ (given : Given) (run most : ℕ) (answers : List OperatorAnswer) (before after : PeersView) (old mid : SiteView) (last : End)
    (p : Paired given run most answers before after old mid last) where
  paired-disk : status_of last ≡ 8 → Rose old.disk.faults mid.disk.faults
  paired-disk e = rose-as p.first.site.disk.faults p.wire.site.disk.faults old.disk.faults mid.disk.faults
      (ap (λ (w : WireView). w.site.disk.faults) p.over.begins) (ap (λ (s : SiteView). s.disk.faults) p.over.site)
      (over-failed given run most answers p.first.site p.wire.site p.how (eight-is p.how (behind-status 8 (λ f. omega (arith, f)) p.fails p.how (sym (ap status_of p.ends) ∙ e))) p.session)

  paired-line : p.how ≡ unsaid → Rose old.counts.unsaid mid.counts.unsaid
  paired-line is = rose-as p.first.site.counts.unsaid p.wire.site.counts.unsaid old.counts.unsaid mid.counts.unsaid
      (ap (λ (w : WireView). w.site.counts.unsaid) p.over.begins) (ap (λ (s : SiteView). s.counts.unsaid) p.over.site)
      (over-unsaid given run most answers p.first.site p.wire.site p.how is p.session)

  paired-grew : (mid.counts.unsaid ≡ old.counts.unsaid) ⊎ Rose old.counts.unsaid mid.counts.unsaid
  paired-grew = go (over-said given run most answers p.first.site p.wire.site p.how p.session)
    where
      go : (p.wire.site.counts.unsaid ≡ p.first.site.counts.unsaid) ⊎ (p.how ≡ unsaid) → (mid.counts.unsaid ≡ old.counts.unsaid) ⊎ Rose old.counts.unsaid mid.counts.unsaid
      go (inl said) = inl (sym (ap (λ (s : SiteView). s.counts.unsaid) p.over.site) ∙ said ∙ ap (λ (w : WireView). w.site.counts.unsaid) p.over.begins)
      go (inr is) = inr (paired-line is)

  paired-unsaid : last ≡ unsaid → Rose old.counts.unsaid mid.counts.unsaid
  paired-unsaid is = go (nine-or-not p.how)
    where
      go : (p.how ≡ unsaid) ⊎ (status_of p.how ≡ 9 → ⊥) → Rose old.counts.unsaid mid.counts.unsaid
      go (inl h) = paired-line h
      go (inr other) = absurd (other (behind-status 9 (λ f. omega (arith, f)) p.fails p.how (ap status_of (sym p.ends ∙ is))))

module _ (before after : PeersView) (shelf : ShelfCall) (old mid : SiteView) (last : End) where
  outcome-disk : status_of last ≡ 8 → Outcome before after shelf old mid last → Rose old.disk.faults mid.disk.faults
  outcome-disk e (quiet same one steady) = absurd (not-among 8 quiet_statuses refl (subst (λ (n : ℕ). IsOneOf n quiet_statuses) e one))
  outcome-disk e (shelf_fails name same is rose) = absurd (let k : status_of last ≡ 3 = ap status_of is in omega (arith, e, k))
  outcome-disk e (holds start k steady) = go k.holds
    where
      go : PairsSo k.given start.run start.most k.answers before after old mid last → Rose old.disk.faults mid.disk.faults
      go (inl u) = absurd (let n : status_of last ≡ 17 = ap status_of u.ends in omega (arith, e, n))
      go (inr p) = paired-disk k.given start.run start.most k.answers before after old mid last p e

  outcome-grew : Outcome before after shelf old mid last → (mid.counts.unsaid ≡ old.counts.unsaid) ⊎ Rose old.counts.unsaid mid.counts.unsaid
  outcome-grew (quiet same one steady) = inl (ap (λ (s : SiteView). s.counts.unsaid) same)
  outcome-grew (shelf_fails name same is rose) = inl (ap (λ (s : SiteView). s.counts.unsaid) same)
  outcome-grew (holds start k steady) = go k.holds
    where
      go : PairsSo k.given start.run start.most k.answers before after old mid last → (mid.counts.unsaid ≡ old.counts.unsaid) ⊎ Rose old.counts.unsaid mid.counts.unsaid
      go (inl u) = inl (ap (λ (s : SiteView). s.counts.unsaid) u.same)
      go (inr p) = paired-grew k.given start.run start.most k.answers before after old mid last p

  outcome-unsaid : last ≡ unsaid → Outcome before after shelf old mid last → Rose old.counts.unsaid mid.counts.unsaid
  outcome-unsaid is (quiet same one steady) = absurd (not-among 9 quiet_statuses refl (subst (λ (n : ℕ). IsOneOf n quiet_statuses) (ap status_of is) one))
  outcome-unsaid is (shelf_fails name same ends rose) = absurd (let k : 9 ≡ 3 = ap status_of (sym is ∙ ends) in omega (arith, k))
  outcome-unsaid is (holds start k steady) = go k.holds
    where
      go : PairsSo k.given start.run start.most k.answers before after old mid last → Rose old.counts.unsaid mid.counts.unsaid
      go (inl u) = absurd (let n : 9 ≡ 17 = ap status_of (sym is ∙ u.ends) in omega (arith, n))
      go (inr p) = paired-unsaid k.given start.run start.most k.answers before after old mid last p is

-- ---- `filters`

-- its end is no failed line
served-nine : (how : Result ℕ WireError) (first last : WireView) → Served how first last → served_end how ≡ unsaid → ⊥
served-nine (Ok acts) first last h e = cc
served-nine (Err error.Say) first last h e = h
served-nine (Err error.Disk) first last h e = cc
served-nine (Err (error.Damaged file place)) first last h e = cc
served-nine (Err (error.OtherRun held asked)) first last h e = cc
served-nine (Err (error.OtherBook index)) first last h e = cc
served-nine (Err (error.Limit what)) first last h e = cc
served-nine (Err error.Flooded) first last h e = cc
served-nine (Err error.TooLong) first last h e = cc
served-nine (Err error.Link) first last h e = cc
served-nine (Err error.Memory) first last h e = cc

served-eight : (how : Result ℕ WireError) → served_end how ≡ disk_failed → how ≡ Err error.Disk
served-eight (Ok acts) e = absurd (cc)
served-eight (Err why) e = ap (λ (w : WireError). Err w) (wire-eight why e)

module _ (before after : PeersView) (old mid : SiteView) (last : End) (h : ServesLink before after old mid last) where
  link-disk : status_of last ≡ 8 → Rose old.disk.faults mid.disk.faults
  link-disk e = rose-as h.first.site.disk.faults h.wire.site.disk.faults old.disk.faults mid.disk.faults
      (ap (λ (w : WireView). w.site.disk.faults) h.over.begins) (ap (λ (s : SiteView). s.disk.faults) h.over.site)
      (h.failed (served-eight h.how (eight-is (served_end h.how) (behind-status 8 (λ f. omega (arith, f)) h.fails (served_end h.how) (sym (ap status_of h.ends) ∙ e)))))

  link-said : mid.counts.unsaid ≡ old.counts.unsaid
  link-said = sym (ap (λ (s : SiteView). s.counts.unsaid) h.over.site) ∙ served-said h.how h.first h.wire h.served ∙ ap (λ (w : WireView). w.site.counts.unsaid) h.over.begins

  link-nine : last ≡ unsaid → ⊥
  link-nine is = go (nine-or-not (served_end h.how))
    where
      go : (served_end h.how ≡ unsaid) ⊎ (status_of (served_end h.how) ≡ 9 → ⊥) → ⊥
      go (inl e) = served-nine h.how h.first h.wire h.served e
      go (inr other) = other (behind-status 9 (λ f. omega (arith, f)) h.fails (served_end h.how) (ap status_of (sym h.ends ∙ is)))

module _ (before after : PeersView) (old mid : SiteView) (last : End) where
  serves-disk : status_of last ≡ 8 → ServesSo before after old mid last → Rose old.disk.faults mid.disk.faults
  serves-disk e (inr (inl f)) = absurd (let k : status_of last ≡ 17 = ap status_of f.ends in omega (arith, e, k))
  serves-disk e (inr (inr w)) = absurd (let k : status_of last ≡ 10 = ap status_of w.ends in omega (arith, e, k))
  serves-disk e (inl b) = go b.goes_on
    where
      by : (said : SiteView) → said.disk.faults ≡ old.disk.faults → Accepts b.between after said mid last ⊎ FailsToAccept b.between after said mid last → Rose old.disk.faults mid.disk.faults
      by said same (inl a) = rose-as said.disk.faults mid.disk.faults old.disk.faults mid.disk.faults same refl (link-disk a.between after said mid last a.serves e)
      by said same (inr f) = absurd (let k : status_of last ≡ 17 = ap status_of f.ends in omega (arith, e, k))

      go : SaysPort b.port b.between after old mid last ⊎ LeavesPort b.between after old mid last → Rose old.disk.faults mid.disk.faults
      go (inl s) = by s.said s.says.only.disk.faults s.accepts
      go (inr l) = absurd (leaves l.why)
        where
          leaves : (FailsToSay old mid × (last ≡ unsaid)) ⊎ ((mid ≡ old) × (last ≡ no_memory)) → ⊥
          leaves (inl w) = let k : status_of last ≡ 9 = ap status_of w.1 in omega (arith, e, k)
          leaves (inr w) = let k : status_of last ≡ 10 = ap status_of w.1 in omega (arith, e, k)

  serves-grew : ServesSo before after old mid last → (mid.counts.unsaid ≡ old.counts.unsaid) ⊎ Rose old.counts.unsaid mid.counts.unsaid
  serves-grew (inr (inl f)) = inl (ap (λ (s : SiteView). s.counts.unsaid) f.same)
  serves-grew (inr (inr w)) = inl (ap (λ (s : SiteView). s.counts.unsaid) w.same)
  serves-grew (inl b) = go b.goes_on
    where
      by : (said : SiteView) → Accepts b.between after said mid last ⊎ FailsToAccept b.between after said mid last → mid.counts.unsaid ≡ said.counts.unsaid
      by said (inl a) = link-said a.between after said mid last a.serves
      by said (inr f) = ap (λ (s : SiteView). s.counts.unsaid) f.same

      leaves : (FailsToSay old mid × (last ≡ unsaid)) ⊎ ((mid ≡ old) × (last ≡ no_memory)) → (mid.counts.unsaid ≡ old.counts.unsaid) ⊎ Rose old.counts.unsaid mid.counts.unsaid
      leaves (inl w) = inr (rose-at-last old.counts.unsaid old.counts.unsaid mid.counts.unsaid (inl refl) w.0.unsaid)
      leaves (inr w) = inl (ap (λ (s : SiteView). s.counts.unsaid) w.0)

      go : SaysPort b.port b.between after old mid last ⊎ LeavesPort b.between after old mid last → (mid.counts.unsaid ≡ old.counts.unsaid) ⊎ Rose old.counts.unsaid mid.counts.unsaid
      go (inl s) = inl (by s.said s.accepts ∙ s.says.unsaid)
      go (inr l) = leaves l.why

  serves-unsaid : last ≡ unsaid → ServesSo before after old mid last → Rose old.counts.unsaid mid.counts.unsaid
  serves-unsaid is (inr (inl f)) = absurd (let k : 9 ≡ 17 = ap status_of (sym is ∙ f.ends) in omega (arith, k))
  serves-unsaid is (inr (inr w)) = absurd (let k : 9 ≡ 10 = ap status_of (sym is ∙ w.ends) in omega (arith, k))
  serves-unsaid is (inl b) = go b.goes_on
    where
      by : (said : SiteView) → Accepts b.between after said mid last ⊎ FailsToAccept b.between after said mid last → ⊥
      by said (inl a) = link-nine a.between after said mid last a.serves is
      by said (inr f) = let k : 9 ≡ 17 = ap status_of (sym is ∙ f.ends) in omega (arith, k)

      leaves : (FailsToSay old mid × (last ≡ unsaid)) ⊎ ((mid ≡ old) × (last ≡ no_memory)) → Rose old.counts.unsaid mid.counts.unsaid
      leaves (inl w) = rose-at-last old.counts.unsaid old.counts.unsaid mid.counts.unsaid (inl refl) w.0.unsaid
      leaves (inr w) = absurd (let k : 9 ≡ 10 = ap status_of (sym is ∙ w.1) in omega (arith, k))

      go : SaysPort b.port b.between after old mid last ⊎ LeavesPort b.between after old mid last → Rose old.counts.unsaid mid.counts.unsaid
      go (inl s) = absurd (by s.said s.accepts)
      go (inr l) = leaves l.why

-- ---- by the words

pub faults-with : (asked : Option PeerRequest) (shelf : ShelfCall) (before after : PeersView) (old new : SiteView) (answer : ℕ) → EndsWithPeer asked shelf before after old new answer → TellsPeerFaults asked old new answer
faults-with None shelf before after old new answer h = tt
faults-with (Some (pairs wanted)) shelf before after old new answer h =
    let came : Outcome before after shelf old h.between h.last = pair-outcome before after shelf old h.between h.last wanted (goes-performed (Some (runs wanted)) before after shelf old h.between h.last h.goes) in
    record {
      disk_failed = λ e. rose-as old.disk.faults h.between.disk.faults old.disk.faults new.disk.faults refl (sym (last-disk h.last (text_of h.last) h.between new answer h.tells))
          (outcome-disk before after shelf old h.between h.last (eight-told h.last h.between new answer h.tells e) came);
      unsaid = λ e. nine-told h.last h.between new answer old.counts.unsaid h.tells e (outcome-grew before after shelf old h.between h.last came)
          (λ is. outcome-unsaid before after shelf old h.between h.last is came);
    }
faults-with (Some serves) shelf before after old new answer h = record {
  disk_failed = λ e. rose-as old.disk.faults h.between.disk.faults old.disk.faults new.disk.faults refl (sym (last-disk h.last (text_of h.last) h.between new answer h.tells))
      (serves-disk before after old h.between h.last (eight-told h.last h.between new answer h.tells e) h.serves);
  unsaid = λ e. nine-told h.last h.between new answer old.counts.unsaid h.tells e (serves-grew before after old h.between h.last h.serves)
      (λ is. serves-unsaid before after old h.between h.last is h.serves);
}
