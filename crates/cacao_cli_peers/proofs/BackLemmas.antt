-- The site beneath a wire comes back as it was lent, and what calls were made of the peers.
use Rattle.std.proofs.Common.{◌≡◌, ◌≢◌, IfOk, IfErr, inl, inr, ◌∙◌, sym, ap, subst, arith, ℕ, Bool, List, Option, Some, None, Result, Ok, Err}
use Rattle.cacao_site.specs.View.{SiteView}
use Rattle.cacao_site.specs.declared.parcel.Parcel.{Parcel}
use Rattle.flow_core.specs.declared.flow_errors.LimitKind.TheVariants as limit
use Rattle.flow_core_rules.specs.Givens.{Given}
use Rattle.flow_engine_answers.specs.declared.answers.OperatorAnswer.{OperatorAnswer}
use Rattle.flow_world_parts.specs.Openings.{RefusesFilters}
use Rattle.flow_world_parts.specs.declared.close.Close.{Close}
use Rattle.flow_world_parts.specs.declared.error.WorldError.{WorldError}
use Rattle.oc2_wire.specs.Prefixes.{GoesOn}
use Rattle.oc2_wire.specs.Answering.{Served}
use Rattle.oc2_wire.specs.Serving.{HasRefused, HasServed}
use Rattle.oc2_wire_laws.specs.Since.{EngineKeepsSince}
use Rattle.oc2_wire.specs.Kept.{IsToldStart}
use Rattle.oc2_wire.specs.declared.error.WireError.{WireError}
use Rattle.oc2_wire.specs.declared.error.WireError.TheVariants as error
use Rattle.oc2_wire_link.specs.Links.{LinkView}
use Rattle.oc2_wire_link.specs.Peering.{Counts, PeerCalls, accepted, bound, closed, started}
use Rattle.oc2_wire.specs.ReplyWires.{retell}
use Rattle.oc2_wire_site.specs.Marks.{WireMark, mark_label, marked_site}
use Rattle.oc2_wire_site.specs.Wires.{WireView, new_mark, new_wire, wire_view}
use Rattle.oc2_wire_site.proofs.MarkLemmas.{same_end}
use Rattle.cacao_cli_session.specs.Holding.{close_end}
use Rattle.cacao_cli_ends.specs.Ends.{End}
use Rattle.cacao_cli_peers.specs.Pairing.{OverSite, SessionOver, wire_end}
use Rattle.cacao_cli_peers.specs.PeerCounts.{AtMost, CallsAtMost}
use Rattle.cacao_cli_peers.specs.SitesBeneath.{LeavesLink, beneath, beneath_label}
use Rattle.cacao_cli_peers.specs.declared.beneath.Beneath.{Beneath}
use Rattle.cacao_cli_peers.proofs.BeneathLemmas.{SameLoans, label-as, leaves-as, same_coded, same_loans, same_tail}

-- ---- what stands behind a mark in a label

pub behind_mark : (asking other : Bool) (a b : WireMark) (x y : List ℕ) → mark_label asking a x ≡ mark_label other b y → x ≡ y
behind_mark asking other a b x y e =
    let one = same_tail _ _ _ _ e in
    let two = same_tail _ _ _ _ one in
    let three = same_tail _ _ _ _ two in
    let four = same_tail _ _ _ _ three in
    let received = (same_coded a.lines.link.received b.lines.link.received _ _ four).1 in
    let to_come = (same_coded a.lines.link.to_come b.lines.link.to_come _ _ received).1 in
    let sent = (same_coded a.lines.link.sent b.lines.link.sent _ _ to_come).1 in
    (same_coded (Some a.lines.unread) (Some b.lines.unread) x y sent).1

-- what contracts see of a site that is lent so
abbrev pub seen : {S : Type 0} {s : _} → (S → SiteView) → Beneath S s → SiteView
seen view site = beneath site.site.ghost_name (view site.lent.value) site.lost (view site.site.now)

pub same-name : {S : Type 0} {s : _} {a b : Beneath S s} → a ≡ b → a.site.ghost_name ≡ b.site.ghost_name
same-name {S} {s} e = ap (λ (x : Beneath S s). x.site.ghost_name) e

pub same-now : {S : Type 0} {s : _} {a b : Beneath S s} → a ≡ b → a.site.now ≡ b.site.now
same-now {S} {s} e = ap (λ (x : Beneath S s). x.site.now) e

-- a site that was just lent, as it was (what is lost over its link is no count of a wire)
pub lent-as : (name : ℕ) (was now old : SiteView) (lost : ℕ) (link : LinkView) (asking : Bool) → was ≡ old → now ≡ old → new_wire (beneath name was lost now) link asking ≡ new_wire (beneath name old 0 old) link asking
lent-as name was now old lost link asking one two =
    ap (λ (s : SiteView). new_wire (beneath name s 0 now) link asking) one ∙ ap (λ (s : SiteView). new_wire (beneath name old 0 s) link asking) two

-- A wire was made over a site that was lent under this name, and the site that it is over comes back, by the label of its disk; by that it is
-- known, too, what its link was.
pub over-site : (asking other : Bool) (name name' : ℕ) (old was now new : SiteView) (lost : ℕ) (link : LinkView) (mark : WireMark) (puts taken : List (ℕ × Parcel))
    (empty : List ℕ) (mishaps : ℕ) (first last : WireView) → first ≡ new_wire (beneath name old 0 old) link asking
    → last.site ≡ wire_view (marked_site other mark (beneath name' was lost now)) puts taken empty mishaps
    → last.site.disk.label ≡ first.site.disk.label → LeavesLink was now → (name' ≡ name → new ≡ now) → OverSite asking old new first last
over-site asking other name name' old was now new lost link mark puts taken empty mishaps first last begins is label leaves back =
    record { name = name; link = link; begins = begins; puts = puts; taken = taken; empty = empty; mishaps = mishaps; mark = mark; site = is ∙ whole; leaves = left }
  where
    labels : mark_label other mark (beneath_label name' was now.disk.label) ≡ mark_label asking (new_mark link) (beneath_label name old old.disk.label)
    labels = sym (ap (λ (s : SiteView). s.disk.label) is) ∙ label ∙ ap (λ (w : WireView). w.site.disk.label) begins

    behind : beneath_label name' was now.disk.label ≡ beneath_label name old old.disk.label
    behind = behind_mark other asking mark (new_mark link) _ _ labels

    loans : SameLoans name' was name old now.disk.label old.disk.label
    loans = same_loans name' name was old now.disk.label old.disk.label behind

    end_is : other ≡ asking
    end_is = same_end other asking mark (new_mark link) _ _ labels

    here : new ≡ now
    here = back loans.named

    told : beneath_label name' was now.disk.label ≡ beneath_label name old now.disk.label
    told = behind ∙ label-as name old old.disk.label now.disk.label (sym loans.behind)

    whole : wire_view (marked_site other mark (beneath name' was lost now)) puts taken empty mishaps ≡ wire_view (marked_site asking mark (beneath name old 0 new)) puts taken empty mishaps
    whole = ap (λ (b : Bool). wire_view (marked_site b mark (retell (beneath_label name' was now.disk.label) 0 now)) puts taken empty mishaps) end_is
        ∙ ap (λ (l : List ℕ). wire_view (marked_site asking mark (retell l 0 now)) puts taken empty mishaps) told
        ∙ ap (λ (s : SiteView). wire_view (marked_site asking mark (beneath name old 0 s)) puts taken empty mishaps) (sym here)

    left : LeavesLink old new
    left = subst (λ (s : SiteView). LeavesLink old s) (sym here) (leaves-as name' name was old now now.disk.label old.disk.label loans leaves)

-- ---- the filters' end is over the same disk

refused-label : {why : WorldError} {old new : SiteView} → RefusesFilters why old new → new.disk.label ≡ old.disk.label
refused-label h = h.refuses.opens.only.each.goes_on.label ∙ h.before.goes_on.label

pub served-label : (how : Result ℕ WireError) (first last : WireView) → Served how first last → last.site.disk.label ≡ first.site.disk.label
served-label (Ok acts) first last h = h.0.all.serves.goes_on.label
served-label (Err error.Disk) first last (inl h) = refused-label h.refuses
served-label (Err error.Disk) first last (inr h) = h.refuses.serves.goes_on.label
served-label (Err (error.Damaged file place)) first last h = refused-label h.refuses
served-label (Err (error.OtherRun held asked)) first last h = absurd h
served-label (Err (error.OtherBook index)) first last h = absurd h
served-label (Err (error.Limit limit.Journal)) first last h = h.refuses.serves.goes_on.label
served-label (Err (error.Limit limit.Moment)) first last h = h.refuses.serves.goes_on.label
served-label (Err (error.Limit limit.Tasks)) first last h = absurd h
served-label (Err (error.Limit limit.Command)) first last h = absurd h
served-label (Err error.Say) first last h = absurd h
served-label (Err error.Flooded) first last h = h.serves.goes_on.label
served-label (Err error.TooLong) first last h = h.all.serves.goes_on.label
served-label (Err error.Link) first last h = h.all.serves.goes_on.label
served-label (Err error.Memory) first last (inl h) = refused-label h.refuses
served-label (Err error.Memory) first last (inr (inl h)) = h.all.serves.goes_on.label
served-label (Err error.Memory) first last (inr (inr h)) = h.refuses.serves.goes_on.label

-- ---- calls

started-closed : (a : PeerCalls) → AtMost 1 0 0 1 a (closed (started a))
started-closed a = record { started = omega (arith); bound = omega (arith); accepted = omega (arith); closed = omega (arith) }

pub pair-calls : (before between after : Option PeerCalls) → Counts started before between → Counts closed between after → CallsAtMost 1 0 0 1 before after
pair-calls None None None s c = tt
pair-calls None None (Some z) s c = absurd c
pair-calls None (Some y) after s c = absurd s
pair-calls (Some x) None after s c = absurd s
pair-calls (Some x) (Some y) None s c = absurd c
pair-calls (Some x) (Some y) (Some z) s c = subst (AtMost 1 0 0 1 x) (sym (c ∙ ap closed s)) (started-closed x)

-- ---- a session of the engine's end

abbrev pub session_end : Result Close WireError → End
session_end (Ok close) = close_end close
session_end (Err why) = wire_end why

pub session-over : (given : Given) (run most : ℕ) (answers : List OperatorAnswer) (old new : SiteView) (how : End) (result : Result Close WireError)
    → how ≡ session_end result
    → IfOk result (λ close. HasServed close given run most answers old new) → IfErr result (λ why. HasRefused why given run most answers old new)
    → (IsToldStart old run → EngineKeepsSince old run new) → (IsToldStart old run → GoesOn most old new) → (result ≢ Err error.Disk → new.disk.faults ≡ old.disk.faults)
    → SessionOver given run most answers old new how
session-over given run most answers old new how (Ok close) is served refused kept goes_on steady =
    record { held = inl (record { close = close; served = served; ends = is }); kept = kept; goes_on = goes_on; steady = λ other. steady (λ e. cc) }
session-over given run most answers old new how (Err why) is served refused kept goes_on steady =
    record {
      held = inr (record { error = why; refused = refused; ends = is });
      kept = kept;
      goes_on = goes_on;
      steady = λ other. steady (λ e. other (is ∙ ap session_end e));
    }
