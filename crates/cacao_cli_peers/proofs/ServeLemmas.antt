-- The statuses and the counts of `filters`.
use Rattle.std.proofs.Common.{◌≡◌, ◌≢◌, ◌⊎◌, inl, inr, ◌∙◌, refl, sym, ap, subst, arith, ℕ, ◌≤◌, Bool, true, false, List, [], ◌∷◌, Result, Ok, Err}
use Rattle.std.specs.Prelude.{if◌then◌else◌}
use Rattle.cacao_site.specs.Counts.{Rose, count_after, next_count}
use Rattle.cacao_site.specs.View.{CountsView, SiteView}
use Rattle.flow_world_parts.specs.Openings.{RefusesFilters}
use Rattle.flow_world_parts.specs.declared.error.WorldError.{WorldError}
use Rattle.flow_core.specs.declared.flow_errors.LimitKind.TheVariants as limit
use Rattle.oc2_wire.specs.Answering.{Served}
use Rattle.oc2_wire.specs.declared.error.WireError.{WireError}
use Rattle.oc2_wire.specs.declared.error.WireError.TheVariants as error
use Rattle.oc2_wire_link.specs.Peering.{PeersView}
use Rattle.oc2_wire_site.specs.LineLinks.{IsLineLink}
use Rattle.oc2_wire_site.specs.Wires.{WireView}
use Rattle.cacao_cli_ends.specs.Comes.{IsOneOf}
use Rattle.cacao_cli_ends.specs.Ends.{End, disk_failed, is_fault, no_memory, status_of, unsaid}
use Rattle.cacao_cli_ends.specs.Lines.{FailsToSay, SaysLine}
use Rattle.cacao_cli_peers.specs.FilterServing.{Accepts, Binds, FailsToAccept, LeavesPort, SaysPort, ServesLink, ServesSo, port_line, served_end}
use Rattle.cacao_cli_peers.specs.PeerCounts.{behind_close}
use Rattle.cacao_cli_peers.proofs.PairLemmas.{behind-listed, failed-rose, closed-rose, linked-rose}

abbrev pub filter_statuses : List ℕ
filter_statuses = 0 ∷ 8 ∷ 9 ∷ 10 ∷ 11 ∷ 13 ∷ 15 ∷ 17 ∷ []

served-listed : (how : Result ℕ WireError) (first last : WireView) → Served how first last → IsOneOf (status_of (served_end how)) filter_statuses
served-listed (Ok acts) first last h = inl refl
served-listed (Err error.Disk) first last h = inr (inl refl)
served-listed (Err (error.Damaged file place)) first last h = inr (inr (inr (inr (inr (inl refl)))))
served-listed (Err (error.OtherRun held asked)) first last h = absurd h
served-listed (Err (error.OtherBook index)) first last h = absurd h
served-listed (Err (error.Limit limit.Journal)) first last h = inr (inr (inr (inr (inl refl))))
served-listed (Err (error.Limit limit.Moment)) first last h = inr (inr (inr (inr (inl refl))))
served-listed (Err (error.Limit limit.Tasks)) first last h = absurd h
served-listed (Err (error.Limit limit.Command)) first last h = absurd h
served-listed (Err error.Say) first last h = absurd h
served-listed (Err error.Flooded) first last h = inr (inr (inr (inr (inr (inr (inl refl))))))
served-listed (Err error.TooLong) first last h = inr (inr (inr (inr (inl refl))))
served-listed (Err error.Link) first last h = inr (inr (inr (inr (inr (inr (inr (inl refl)))))))
served-listed (Err error.Memory) first last h = inr (inr (inr (inl refl)))

-- nor while their files are opened
opening-said : {why : WorldError} {old new : SiteView} → RefusesFilters why old new → new.counts.unsaid ≡ old.counts.unsaid
opening-said h = ap (λ (c : CountsView). c.unsaid) (h.refuses.opens.only.rest.counts ∙ h.before.rest.counts)

-- only a failed link is told as failed peers
served-failed : (how : Result ℕ WireError) (first last : WireView) → IsLineLink last.lines → Served how first last → status_of (served_end how) ≡ 17 → 1 ≤ last.lines.link.faults
served-failed (Ok acts) first last lines h e = absurd (omega (arith, e))
served-failed (Err error.Disk) first last lines h e = absurd (omega (arith, e))
served-failed (Err (error.Damaged file place)) first last lines h e = absurd (omega (arith, e))
served-failed (Err (error.OtherRun held asked)) first last lines h e = absurd h
served-failed (Err (error.OtherBook index)) first last lines h e = absurd h
served-failed (Err (error.Limit limit.Journal)) first last lines h e = absurd (omega (arith, e))
served-failed (Err (error.Limit limit.Moment)) first last lines h e = absurd (omega (arith, e))
served-failed (Err (error.Limit limit.Tasks)) first last lines h e = absurd h
served-failed (Err (error.Limit limit.Command)) first last lines h e = absurd h
served-failed (Err error.Say) first last lines h e = absurd h
served-failed (Err error.Flooded) first last lines h e = absurd (omega (arith, e))
served-failed (Err error.TooLong) first last lines h e = absurd (omega (arith, e))
served-failed (Err error.Link) first last lines h e = lines.failed h.found
served-failed (Err error.Memory) first last lines h e = absurd (omega (arith, e))

module _ (before after : PeersView) (old new : SiteView) (last : End) where
  link-listed : ServesLink before after old new last → IsOneOf (status_of last) filter_statuses
  link-listed h = subst (λ (e : End). IsOneOf (status_of e) filter_statuses) (sym h.ends)
      (behind-listed h.fails (served_end h.how) filter_statuses (inr (inr (inr (inr (inr (inr (inr (inl refl)))))))) (served-listed h.how h.first h.wire h.served))

  link-rose : ServesLink before after old new last → status_of last ≡ 17 → Rose before.faults after.faults
  link-rose h e = go h.fails h.closes.1 h.ends
    where
      go : (b : Bool) → after.faults ≡ (if b then next_count (count_after before.faults h.wire.lines.link.faults) else count_after before.faults h.wire.lines.link.faults)
          → last ≡ behind_close b (served_end h.how) → Rose before.faults after.faults
      go true is ends = closed-rose before.faults h.wire.lines.link.faults after.faults is
      go false is ends = linked-rose before.faults h.wire.lines.link.faults after.faults (served-failed h.how h.first h.wire h.lines h.served (sym (ap status_of ends) ∙ e)) is

fails-listed : (last end : End) → last ≡ end → IsOneOf (status_of end) filter_statuses → IsOneOf (status_of last) filter_statuses
fails-listed last end is h = subst (λ (e : End). IsOneOf (status_of e) filter_statuses) (sym is) h

later-rose : (a b c : ℕ) → b ≡ a → Rose b c → Rose a c
later-rose a b c e rose = omega (arith, e, rose)

pub serves-listed : (before after : PeersView) (old new : SiteView) (last : End) → ServesSo before after old new last → IsOneOf (status_of last) filter_statuses
serves-listed before after old new last (inr (inl h)) = fails-listed last _ h.ends (inr (inr (inr (inr (inr (inr (inr (inl refl))))))))
serves-listed before after old new last (inr (inr h)) = fails-listed last _ h.ends (inr (inr (inr (inl refl))))
serves-listed before after old new last (inl h) = go h.goes_on
  where
    by : (said : SiteView) → Accepts h.between after said new last ⊎ FailsToAccept h.between after said new last → IsOneOf (status_of last) filter_statuses
    by said (inl a) = link-listed a.between after said new last a.serves
    by said (inr f) = fails-listed last _ f.ends (inr (inr (inr (inr (inr (inr (inr (inl refl))))))))

    go : SaysPort h.port h.between after old new last ⊎ LeavesPort h.between after old new last → IsOneOf (status_of last) filter_statuses
    go (inl s) = by s.said s.accepts
    go (inr l) = leaves l.why
      where
        leaves : (FailsToSay old new × (last ≡ unsaid)) ⊎ ((new ≡ old) × (last ≡ no_memory)) → IsOneOf (status_of last) filter_statuses
        leaves (inl w) = fails-listed last _ w.1 (inr (inr (inl refl)))
        leaves (inr w) = fails-listed last _ w.1 (inr (inr (inr (inl refl))))

pub serves-rose : (before after : PeersView) (old new : SiteView) (last : End) → ServesSo before after old new last → status_of last ≡ 17 → Rose before.faults after.faults
serves-rose before after old new last (inr (inl h)) e = failed-rose before.faults after.faults h.calls.1
serves-rose before after old new last (inr (inr h)) e = absurd (let k : status_of last ≡ 10 = ap status_of h.ends in omega (arith, e, k))
serves-rose before after old new last (inl h) e = go h.goes_on
  where
    by : (said : SiteView) → Accepts h.between after said new last ⊎ FailsToAccept h.between after said new last → Rose before.faults after.faults
    by said (inl a) = later-rose before.faults a.between.faults after.faults (a.accepts.1 ∙ h.binds.1) (link-rose a.between after said new last a.serves e)
    by said (inr f) = later-rose before.faults h.between.faults after.faults h.binds.1 (failed-rose h.between.faults after.faults f.calls.1)

    go : SaysPort h.port h.between after old new last ⊎ LeavesPort h.between after old new last → Rose before.faults after.faults
    go (inl s) = by s.said s.accepts
    go (inr l) = absurd (leaves l.why)
      where
        leaves : (FailsToSay old new × (last ≡ unsaid)) ⊎ ((new ≡ old) × (last ≡ no_memory)) → ⊥
        leaves (inl w) = let k : status_of last ≡ 9 = ap status_of w.1 in omega (arith, e, k)
        leaves (inr w) = let k : status_of last ≡ 10 = ap status_of w.1 in omega (arith, e, k)

-- ---- what is counted

-- no line is said while filters are served
pub served-said : (how : Result ℕ WireError) (first last : WireView) → Served how first last → last.site.counts.unsaid ≡ first.site.counts.unsaid
served-said (Ok acts) first last h = h.0.all.serves.unsaid
served-said (Err error.Disk) first last (inl h) = opening-said h.refuses
served-said (Err error.Disk) first last (inr h) = h.refuses.serves.unsaid
served-said (Err (error.Damaged file place)) first last h = opening-said h.refuses
served-said (Err (error.OtherRun held asked)) first last h = absurd h
served-said (Err (error.OtherBook index)) first last h = absurd h
served-said (Err (error.Limit limit.Journal)) first last h = h.refuses.serves.unsaid
served-said (Err (error.Limit limit.Moment)) first last h = h.refuses.serves.unsaid
served-said (Err (error.Limit limit.Tasks)) first last h = absurd h
served-said (Err (error.Limit limit.Command)) first last h = absurd h
served-said (Err error.Say) first last h = absurd h
served-said (Err error.Flooded) first last h = h.serves.unsaid
served-said (Err error.TooLong) first last h = h.all.serves.unsaid
served-said (Err error.Link) first last h = h.all.serves.unsaid
served-said (Err error.Memory) first last (inl h) = opening-said h.refuses
served-said (Err error.Memory) first last (inr (inl h)) = h.all.serves.unsaid
served-said (Err error.Memory) first last (inr (inr h)) = h.refuses.serves.unsaid

-- a fault is told, or nothing was counted of the disk and of lines
abbrev pub ServeCounts : SiteView → SiteView → End → Type 0
ServeCounts old new last =
    ((is_fault last ≡ true) × (status_of last ≡ 10 → ⊥)) ⊎ ((new.disk.faults ≡ old.disk.faults) × (new.counts.unsaid ≡ old.counts.unsaid))

fault-as : (last end : End) → last ≡ end → is_fault end ≡ true → (status_of end ≡ 10 → ⊥) → (is_fault last ≡ true) × (status_of last ≡ 10 → ⊥)
fault-as last end is fault other = (ap is_fault is ∙ fault, λ e. other (sym (ap status_of is) ∙ e))

same-counts : (old new : SiteView) → new ≡ old → (new.disk.faults ≡ old.disk.faults) × (new.counts.unsaid ≡ old.counts.unsaid)
same-counts old new e = (ap (λ (s : SiteView). s.disk.faults) e, ap (λ (s : SiteView). s.counts.unsaid) e)

-- the disk failed, or not
is-disk : (how : Result ℕ WireError) → (how ≡ Err error.Disk) ⊎ (how ≢ Err error.Disk)
is-disk (Ok acts) = inr (λ e. cc)
is-disk (Err error.Disk) = inl refl
is-disk (Err (error.Damaged file place)) = inr (λ e. cc)
is-disk (Err (error.OtherRun held asked)) = inr (λ e. cc)
is-disk (Err (error.OtherBook index)) = inr (λ e. cc)
is-disk (Err (error.Limit what)) = inr (λ e. cc)
is-disk (Err error.Say) = inr (λ e. cc)
is-disk (Err error.Flooded) = inr (λ e. cc)
is-disk (Err error.TooLong) = inr (λ e. cc)
is-disk (Err error.Link) = inr (λ e. cc)
is-disk (Err error.Memory) = inr (λ e. cc)

link-counts : (before after : PeersView) (old new : SiteView) (last : End) → ServesLink before after old new last → ServeCounts old new last
link-counts before after old new last h = go (is-disk h.how)
  where
    disk-fault : (fails : Bool) → (is_fault (behind_close fails disk_failed) ≡ true) × (status_of (behind_close fails disk_failed) ≡ 10 → ⊥)
    disk-fault false = (refl, λ e. omega (arith, e))
    disk-fault true = (refl, λ e. omega (arith, e))

    go : (h.how ≡ Err error.Disk) ⊎ (h.how ≢ Err error.Disk) → ServeCounts old new last
    go (inl e) = inl (fault-as last (behind_close h.fails disk_failed) (h.ends ∙ ap (λ (r : Result ℕ WireError). behind_close h.fails (served_end r)) e) (disk-fault h.fails).0 (disk-fault h.fails).1)
    go (inr other) = inr (
      ap (λ (s : SiteView). s.disk.faults) (sym h.over.site) ∙ h.steady other ∙ ap (λ (w : WireView). w.site.disk.faults) h.over.begins,
      ap (λ (s : SiteView). s.counts.unsaid) (sym h.over.site) ∙ served-said h.how h.first h.wire h.served ∙ ap (λ (w : WireView). w.site.counts.unsaid) h.over.begins,
    )

pub serves-counts : (before after : PeersView) (old new : SiteView) (last : End) → ServesSo before after old new last → ServeCounts old new last
serves-counts before after old new last (inr (inl h)) = inr (same-counts old new h.same)
serves-counts before after old new last (inr (inr h)) = inr (same-counts old new h.same)
serves-counts before after old new last (inl h) = go h.goes_on
  where
    later : (said : SiteView) → SaysLine (port_line h.port) old said → ServeCounts said new last → ServeCounts old new last
    later said says (inl f) = inl f
    later said says (inr k) = inr (k.0 ∙ says.only.disk.faults, k.1 ∙ says.unsaid)

    by : (said : SiteView) → Accepts h.between after said new last ⊎ FailsToAccept h.between after said new last → ServeCounts said new last
    by said (inl a) = link-counts a.between after said new last a.serves
    by said (inr f) = inr (same-counts said new f.same)

    go : SaysPort h.port h.between after old new last ⊎ LeavesPort h.between after old new last → ServeCounts old new last
    go (inl s) = later s.said s.says (by s.said s.accepts)
    go (inr l) = leaves l.why
      where
        leaves : (FailsToSay old new × (last ≡ unsaid)) ⊎ ((new ≡ old) × (last ≡ no_memory)) → ServeCounts old new last
        leaves (inl w) = inl (fault-as last unsaid w.1 refl (λ e. omega (arith, e)))
        leaves (inr w) = inr (same-counts old new w.0)
