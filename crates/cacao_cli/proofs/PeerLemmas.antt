-- The clauses of a call that asks for a peer.
use Rattle.std.proofs.Common.{◌≡◌, ◌⊎◌, inl, inr, ◌∙◌, refl, sym, ap, subst, arith, ℕ, Bool, true, false, List, [], ◌∷◌, length, Option, Some, None}
use Rattle.std.specs.Prelude.{if◌then◌else◌, nat_eq}
use Rattle.std.specs.List.{list_any}
use Rattle.std.proofs.lemmas.Bool.{true≢false}
use Rattle.cacao_site.specs.Counts.{Rose, next_count}
use Rattle.cacao_site.specs.View.{SiteView}
use Rattle.oc2_wire_link.specs.Peering.{PeersView}
use Rattle.cacao_cli_words.specs.Requests.{PeerRequest, RunRequest, pairs, serves}
use Rattle.cacao_cli_words.specs.Words.{Text}
use Rattle.cacao_cli_ends.specs.Asked.{Asked, audits, canonises, checks, decides, lists_rules, rehearses, runs, shadows, shows}
use Rattle.cacao_cli_ends.specs.Comes.{IsOneOf}
use Rattle.cacao_cli_ends.specs.Ends.{End, disk_failed, is_fault, no_memory, peers_failed, shelf_failed, status_of, text_of, unsaid}
use Rattle.cacao_cli_ends.specs.Files.{Counts, ShelfCall, files_of}
use Rattle.cacao_cli_ends.specs.Lines.{Tells, TellsText}
use Rattle.cacao_cli_ends.specs.Stays.{NoFault, ReadsAtMost}
use Rattle.cacao_cli_ends.specs.Work.{Start}
use Rattle.cacao_cli_ends.proofs.LineLemmas.{IsCutOff, tells-status}
use Rattle.cacao_cli_ends.proofs.StatusLists.{not-among, widen}
use Rattle.cacao_cli_ends.proofs.UnsaidLemmas.{last-disk, last-said}
use Rattle.cacao_cli_ends.proofs.ReadLemmas.{counts-none, reads-few}
use Rattle.cacao_cli_peers.specs.Pairing.{HoldsPair, PairsSo}
use Rattle.cacao_cli_peers.specs.PeerCounts.{behind_close, comes_before_peers}
use Rattle.oc2_wire_site.specs.Wires.{WireView}
use Rattle.cacao_cli_status_laws.specs.Ended.{PerformedBy}
use Rattle.cacao_cli_peers.proofs.OverLemmas.{over-said}
use Rattle.cacao_cli_status_laws.proofs.PerformLemmas.{performed-memory}
use Rattle.cacao_cli_peers.proofs.OutcomeLemmas.{Outcome, goes-performed, quiet, shelf_fails, holds, quiet_statuses, pair-outcome}
use Rattle.cacao_cli_peers.proofs.PairLemmas.{link_statuses, pairs-listed, pairs-rose}
use Rattle.cacao_cli_peers.proofs.ServeLemmas.{ServeCounts, filter_statuses, serves-counts, serves-listed, serves-rose}
use Rattle.cacao_cli.specs.WithPeers.{EndedPairing, EndedServing, EndsWithPeer, IsPeerStatus, PerformsWithPeer, files_for, peer_statuses}
use Rattle.cacao_cli_status_laws.specs.Statuses.{statuses_of}

-- the answer is the status of the last end, or one that stands in its place
answered : (last : End) (mid new : SiteView) (answer : ℕ) (ms ns : List ℕ) → Tells last mid new answer → IsOneOf (status_of last) ms
    → ((n : ℕ) → IsOneOf n ms → IsOneOf n ns) → (IsCutOff answer → IsOneOf answer ns) → IsOneOf answer ns
answered last mid new answer ms ns tells one wide cut = go (tells-status last mid new answer tells)
  where
    go : (answer ≡ status_of last) ⊎ IsCutOff answer → IsOneOf answer ns
    go (inl e) = subst (λ (n : ℕ). IsOneOf n ns) (sym e) (wide (status_of last) one)
    go (inr c) = cut c

-- an answer that stands in no other's place is the last end's status
pub told-as : (last : End) (mid new : SiteView) (answer : ℕ) → Tells last mid new answer → (IsCutOff answer → ⊥) → answer ≡ status_of last
told-as last mid new answer tells other = go (tells-status last mid new answer tells)
  where
    go : (answer ≡ status_of last) ⊎ IsCutOff answer → answer ≡ status_of last
    go (inl e) = e
    go (inr c) = absurd (other c)

-- a failed shelf is told, or its line could not be said
shelf-told : (name : Text) (last : End) (mid new : SiteView) (answer : ℕ) → last ≡ shelf_failed name → Tells last mid new answer → (answer ≡ 3) ⊎ (answer ≡ 9)
shelf-told name last mid new answer is tells = go (subst (λ (e : End). Tells e mid new answer) is tells)
  where
    go : Tells (shelf_failed name) mid new answer → (answer ≡ 3) ⊎ (answer ≡ 9)
    go (inl (inl h)) = inl h.answers
    go (inl (inr h)) = inr h.answers
    go (inr h) = absurd (cc)

-- an end that tells a fault is no want of memory
fault-told : (last : End) (mid new : SiteView) (answer : ℕ) → is_fault last ≡ true → (status_of last ≡ 10 → ⊥) → Tells last mid new answer → answer ≡ 10 → ⊥
fault-told last mid new answer fault other tells e = go (text_of last) tells
  where
    go : (text : Option Text) → TellsText last text mid new answer → ⊥
    go None h = other (sym h.answers ∙ e)
    go (Some text) (inl (inl h)) = other (sym h.answers ∙ e)
    go (Some text) (inl (inr h)) = omega (arith, e, h.answers)
    go (Some text) (inr h) = true≢false (sym fault ∙ h.no_fault)

-- the end of a session whose disk failed, or whose line could not be said, tells a fault, whether its link was closed or not
fault-behind : (fails : Bool) (how : End) → is_fault how ≡ true → comes_before_peers how ≡ false → (status_of how ≡ 10 → ⊥) → (is_fault (behind_close fails how) ≡ true) × (status_of (behind_close fails how) ≡ 10 → ⊥)
fault-behind false how fault later other = (fault, other)
fault-behind true how fault later other = go (comes_before_peers how) later
  where
    go : (b : Bool) → b ≡ false → (is_fault (if b then how else peers_failed) ≡ true) × (status_of (if b then how else peers_failed) ≡ 10 → ⊥)
    go true is = absurd (true≢false is)
    go false is = (refl, λ e. omega (arith, e))

no-fault : (shelf : ShelfCall) (old mid new : SiteView) (last : End) (answer : ℕ) → shelf.after ≡ shelf.before → mid.disk.faults ≡ old.disk.faults → mid.counts.unsaid ≡ old.counts.unsaid → Tells last mid new answer
    → answer ≡ 10 → NoFault shelf.before shelf.after old new
no-fault shelf old mid new last answer steady disk said tells e = record {
  shelf = steady;
  disk = last-disk last (text_of last) mid new answer tells ∙ disk;
  say = last-said last (text_of last) mid new answer tells (λ f. omega (arith, e, f)) ∙ said;
}

module _ (before after : PeersView) (shelf : ShelfCall) (old new : SiteView) (answer : ℕ) (wanted : RunRequest)
    (h : EndedPairing wanted shelf before after old new answer) where
  performed : PerformedBy (HoldsPair before after) (Some (runs wanted)) shelf old h.between h.last
  performed = goes-performed (Some (runs wanted)) before after shelf old h.between h.last h.goes

  came : Outcome before after shelf old h.between h.last
  came = pair-outcome before after shelf old h.between h.last wanted performed

  pub pair-own : IsOneOf answer (peer_statuses (pairs wanted))
  pair-own = go came
    where
      cut : IsCutOff answer → IsOneOf answer (peer_statuses (pairs wanted))
      cut = widen answer (9 ∷ 10 ∷ []) (peer_statuses (pairs wanted)) refl

      go : Outcome before after shelf old h.between h.last → IsOneOf answer (peer_statuses (pairs wanted))
      go (quiet same one steady) = answered h.last h.between new answer quiet_statuses (peer_statuses (pairs wanted)) h.tells one (λ n. widen n quiet_statuses (peer_statuses (pairs wanted)) refl) cut
      go (shelf_fails name same is rose) = answered h.last h.between new answer (3 ∷ []) (peer_statuses (pairs wanted)) h.tells (inl (ap status_of is)) (λ n. widen n (3 ∷ []) (peer_statuses (pairs wanted)) refl) cut
      go (holds start k steady) = answered h.last h.between new answer link_statuses (peer_statuses (pairs wanted)) h.tells
          (pairs-listed k.given start.run start.most k.answers before after old h.between h.last k.holds) (λ n. widen n link_statuses (peer_statuses (pairs wanted)) refl) cut

  pub pair-rose : answer ≡ 17 → Rose before.faults after.faults
  pair-rose e = go came
    where
      seen : status_of h.last ≡ 17
      seen = sym (told-as h.last h.between new answer h.tells (λ c. not-among 17 (9 ∷ 10 ∷ []) refl (subst (λ (n : ℕ). IsOneOf n (9 ∷ 10 ∷ [])) e c))) ∙ e

      go : Outcome before after shelf old h.between h.last → Rose before.faults after.faults
      go (quiet same one steady) = absurd (not-among 17 quiet_statuses refl (subst (λ (n : ℕ). IsOneOf n quiet_statuses) seen one))
      go (shelf_fails name same is rose) = absurd (let k : status_of h.last ≡ 3 = ap status_of is in omega (arith, seen, k))
      go (holds start k steady) = pairs-rose k.given start.run start.most k.answers before after old h.between h.last k.holds seen

  pub pair-failed : answer ≡ 3 → shelf.after ≡ next_count shelf.before
  pair-failed e = go came
    where
      seen : status_of h.last ≡ 3
      seen = sym (told-as h.last h.between new answer h.tells (λ c. not-among 3 (9 ∷ 10 ∷ []) refl (subst (λ (n : ℕ). IsOneOf n (9 ∷ 10 ∷ [])) e c))) ∙ e

      go : Outcome before after shelf old h.between h.last → shelf.after ≡ next_count shelf.before
      go (quiet same one steady) = absurd (not-among 3 quiet_statuses refl (subst (λ (n : ℕ). IsOneOf n quiet_statuses) seen one))
      go (shelf_fails name same is rose) = rose
      go (holds start k steady) = absurd (not-among 3 link_statuses refl (subst (λ (n : ℕ). IsOneOf n link_statuses) seen
          (pairs-listed k.given start.run start.most k.answers before after old h.between h.last k.holds)))

  pub pair-steady : (answer ≡ 3 → ⊥) → (answer ≡ 9 → ⊥) → shelf.after ≡ shelf.before
  pair-steady no3 no9 = go came
    where
      go : Outcome before after shelf old h.between h.last → shelf.after ≡ shelf.before
      go (quiet same one steady) = steady
      go (shelf_fails name same is rose) = absurd (by (shelf-told name h.last h.between new answer is h.tells))
        where
          by : (answer ≡ 3) ⊎ (answer ≡ 9) → ⊥
          by (inl e) = no3 e
          by (inr e) = no9 e
      go (holds start k steady) = steady

  -- want of memory comes of no fault
  paired-no-fault : (start : Start) (k : HoldsPair before after start old h.between h.last) → shelf.after ≡ shelf.before → answer ≡ 10 → NoFault shelf.before shelf.after old new
  paired-no-fault start k steady e = go k.holds
    where
      go : PairsSo k.given start.run start.most k.answers before after old h.between h.last → NoFault shelf.before shelf.after old new
      go (inl u) = absurd (fault-told h.last h.between new answer (ap is_fault u.ends) (λ f. omega (arith, f, ap status_of u.ends)) h.tells e)
      go (inr p) = by (over-said k.given start.run start.most k.answers p.first.site p.wire.site p.how p.session)
        where
          not : (end : End) → is_fault end ≡ true → comes_before_peers end ≡ false → (status_of end ≡ 10 → ⊥) → p.how ≡ end → ⊥
          not end fault later other is =
              let at = fault-behind p.fails end fault later other in
              let ends : h.last ≡ behind_close p.fails end = p.ends ∙ ap (behind_close p.fails) is in
              fault-told h.last h.between new answer (ap is_fault ends ∙ at.0) (λ f. at.1 (sym (ap status_of ends) ∙ f)) h.tells e

          begun : p.first.site.disk.faults ≡ old.disk.faults
          begun = ap (λ (w : WireView). w.site.disk.faults) p.over.begins

          ended : p.wire.site.disk.faults ≡ h.between.disk.faults
          ended = ap (λ (s : SiteView). s.disk.faults) p.over.site

          begun_said : p.first.site.counts.unsaid ≡ old.counts.unsaid
          begun_said = ap (λ (w : WireView). w.site.counts.unsaid) p.over.begins

          ended_said : p.wire.site.counts.unsaid ≡ h.between.counts.unsaid
          ended_said = ap (λ (s : SiteView). s.counts.unsaid) p.over.site

          by : (p.wire.site.counts.unsaid ≡ p.first.site.counts.unsaid) ⊎ (p.how ≡ unsaid) → NoFault shelf.before shelf.after old new
          by (inl said) = no-fault shelf old h.between new h.last answer steady
              (sym ended ∙ p.session.steady (not disk_failed refl refl (λ f. omega (arith, f))) ∙ begun) (sym ended_said ∙ said ∙ begun_said) h.tells e
          by (inr is) = absurd (not unsaid refl refl (λ f. omega (arith, f)) is)

  pub pair-memory : answer ≡ 10 → NoFault shelf.before shelf.after old new
  pair-memory e = go came
    where
      still : h.between ≡ old → shelf.after ≡ shelf.before → NoFault shelf.before shelf.after old new
      still same steady = no-fault shelf old h.between new h.last answer steady (ap (λ (s : SiteView). s.disk.faults) same) (ap (λ (s : SiteView). s.counts.unsaid) same) h.tells e

      go : Outcome before after shelf old h.between h.last → NoFault shelf.before shelf.after old new
      go (quiet same one steady) = still same steady
      go (shelf_fails name same is rose) = absurd (fault-told h.last h.between new answer (ap is_fault is) (λ f. omega (arith, f, ap status_of is)) h.tells e)
      go (holds start k steady) = paired-no-fault start k steady e

  pub pair-reads : ReadsAtMost (length (files_of (Some (runs wanted)))) shelf.reads_before shelf.reads_after
  pair-reads =
      let reads = performed.reads in
      (reads.count, reads-few shelf.told (files_of (Some (runs wanted))) reads.count performed.read reads.reads, reads.counted)

module _ (before after : PeersView) (old new : SiteView) (answer : ℕ) (h : EndedServing before after old new answer) where
  pub serve-own : IsOneOf answer (peer_statuses serves)
  serve-own = answered h.last h.between new answer filter_statuses (peer_statuses serves) h.tells (serves-listed before after old h.between h.last h.serves) (λ n one. one)
      (widen answer (9 ∷ 10 ∷ []) (peer_statuses serves) refl)

  pub serve-memory : (shelf : ShelfCall) → shelf.after ≡ shelf.before → answer ≡ 10 → NoFault shelf.before shelf.after old new
  serve-memory shelf steady e = go (serves-counts before after old h.between h.last h.serves)
    where
      go : ServeCounts old h.between h.last → NoFault shelf.before shelf.after old new
      go (inl f) = absurd (fault-told h.last h.between new answer f.0 f.1 h.tells e)
      go (inr same) = no-fault shelf old h.between new h.last answer steady same.0 same.1 h.tells e

  pub serve-rose : answer ≡ 17 → Rose before.faults after.faults
  serve-rose e = serves-rose before after old h.between h.last h.serves
      (sym (told-as h.last h.between new answer h.tells (λ c. not-among 17 (9 ∷ 10 ∷ []) refl (subst (λ (n : ℕ). IsOneOf n (9 ∷ 10 ∷ [])) e c))) ∙ e)

  pub serve-never : (m : ℕ) → list_any (nat_eq m) (peer_statuses serves) ≡ false → answer ≡ m → ⊥
  serve-never m none e = not-among m (peer_statuses serves) none (subst (λ (n : ℕ). IsOneOf n (peer_statuses serves)) e serve-own)

-- ---- by the words

pub ended-with : (asked : Option PeerRequest) (shelf : ShelfCall) (before after : PeersView) (old mid new : SiteView) (last : End) (answer : ℕ) → PerformsWithPeer asked shelf before after old mid last → Tells last mid new answer
    → EndsWithPeer asked shelf before after old new answer
ended-with None shelf before after old mid new last answer h tells = tt
ended-with (Some (pairs wanted)) shelf before after old mid new last answer h tells = record { last = last; between = mid; goes = h; tells = tells }
ended-with (Some serves) shelf before after old mid new last answer h tells = record { last = last; between = mid; serves = h; tells = tells }

pub own-with : (asked : Option PeerRequest) (shelf : ShelfCall) (before after : PeersView) (old new : SiteView) (answer : ℕ) → EndsWithPeer asked shelf before after old new answer → IsPeerStatus asked answer
own-with None shelf before after old new answer h = tt
own-with (Some (pairs wanted)) shelf before after old new answer h = pair-own before after shelf old new answer wanted h
own-with (Some serves) shelf before after old new answer h = serve-own before after old new answer h

-- no command of one process answers 17
pub seventeen-out : (asked : Option Asked) → list_any (nat_eq 17) (statuses_of asked) ≡ false
seventeen-out None = refl
seventeen-out (Some (canonises book)) = refl
seventeen-out (Some (checks books)) = refl
seventeen-out (Some (runs wanted)) = refl
seventeen-out (Some shows) = refl
seventeen-out (Some (lists_rules agent)) = refl
seventeen-out (Some (decides agent packets)) = refl
seventeen-out (Some (shadows agent)) = refl
seventeen-out (Some (rehearses positions)) = refl
seventeen-out (Some (audits engine filters)) = refl

-- `filters` names no file
pub no-files : {wanted : Option PeerRequest} (asked : Option Asked) → wanted ≡ Some serves → files_for wanted asked ≡ []
no-files asked is = ap (λ (a : Option PeerRequest). files_for a asked) is

pub none-read-at : (old new : Option ℕ) → new ≡ old → ReadsAtMost 0 old new
none-read-at old new e = (0, omega arith, subst (Counts old 0) (sym e) (counts-none old))

-- memory was wanted for the words
pub memory-with : (asked : Option PeerRequest) (shelf : ShelfCall) (peers : PeersView) (site : SiteView) → shelf.reads_after ≡ shelf.reads_before → shelf.after ≡ shelf.before → PerformsWithPeer asked shelf peers peers site site no_memory
memory-with None shelf peers site same steady = tt
memory-with (Some (pairs wanted)) shelf peers site same steady =
    inl (performed-memory (Some (runs wanted)) shelf site same steady, refl)
memory-with (Some serves) shelf peers site same steady = inr (inr (record { peers = refl; same = refl; ends = refl }))

-- the words ask for no peer
pub with-none : (asked : Option PeerRequest) (shelf : ShelfCall) (before after : PeersView) (old new : SiteView) (last : End) → asked ≡ None → PerformsWithPeer asked shelf before after old new last
with-none asked shelf before after old new last is = subst (λ (a : Option PeerRequest). PerformsWithPeer a shelf before after old new last) (sym is) tt
