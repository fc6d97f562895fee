-- From a session of both ends on one site to two ends of a wire, and back.
use Rattle.std.proofs.Common.{◌≡◌, inl, inr, ℕ, zero, suc, ◌≤◌, Bool, true, false, List, [], ◌∷◌, ◌++◌, refl, sym, ◌∙◌, subst, ap, arith}
use Rattle.std.specs.Prelude.{not, map, filter, Contains}
use Rattle.std.proofs.lemmas.Bool.{both_ways}
use Rattle.std.proofs.lemmas.List.Elements.{Contains-append_cases}
use Rattle.cacao_site.specs.DiskCalls.{IsLeft}
use Rattle.cacao_site.specs.View.{SiteView}
use Rattle.cacao_site.specs.declared.parcel.Parcel.{Parcel}
use Rattle.run_records.specs.declared.record.Record.{Record}
use Rattle.run_records.specs.declared.act.Act.{Act}
use Rattle.run_journal.specs.Layout.{Stands}
use Rattle.flow_laws.specs.Agree.{CommandsAreSent}
use Rattle.flow_laws.specs.Fresh.{IsFresh, IsUnused}
use Rattle.flow_laws.specs.Good.{IsGood}
use Rattle.flow_laws.specs.Held.{IsHeldAs, plain}
use Rattle.flow_laws.specs.Images.{IsAgent, IsRecords, StandsFor, StandsForActs, puts_of, puts_to}
use Rattle.flow_laws.specs.Sessions.{IsStart}
use Rattle.flow_laws.proofs.Again.{begins_anew}
use Rattle.flow_laws.proofs.OneList.{none_of_empty, same_acts, same_records}
use Rattle.oc2_wire_laws.specs.Deliveries.{AreFresh, AreGood, AreStarts, Ends, Events, IsChoiceOfBoth, sent_by}
use Rattle.oc2_wire_laws.specs.OneSite.{AreEndsOf, DeliveriesLeaveStarts, IsOfBoth, NewRunsAreStarts, StartsAreOfBoth, both_behind, put_on}
use Rattle.oc2_wire_laws.proofs.Agreed.{deliveries_keep_agreement, kept_first, marked, unmarked}
use Rattle.oc2_wire_laws.proofs.Begins.{have_images, is_new, never_put, only_before}
use Rattle.oc2_wire_laws.proofs.Fits.{FileFits, JournalFits, MayUse, file_now, journal_now}
use Rattle.oc2_wire_laws.proofs.Kept.{Kept, events_kept}
use Rattle.oc2_wire_laws.proofs.Lists.{HasEntry, entry_of, in_filter, none_in, passes}
use Rattle.oc2_wire_laws.proofs.Starts.{none_of_none}

not_true : (b : Bool) → not b ≡ true → b ≡ false
not_true true e = sym e
not_true false e = refl

-- ---- from one site to two ends

module _ (run : ℕ) (site engine filters : SiteView) (start : IsStart plain site) (fresh : IsFresh site run site.disk.beat) (of : AreEndsOf site engine filters) where
  abbrev ends : Ends
  ends = both_behind site engine filters

  abbrev commands : List Parcel
  commands = filter (λ (p : Parcel). not p.back) (put_on site)

  abbrev replies : List Parcel
  replies = filter (λ (p : Parcel). p.back) (put_on site)

  command_put : (p : Parcel) → Contains (sent_by ends.engine) p → HasEntry (puts_to site site.disk.beat) p
  command_put p has =
      let was = subst (λ (l : List Parcel). Contains l p) (only_before commands engine of.no_commands) has in
      entry_of (puts_to site site.disk.beat) p (in_filter (λ (q : Parcel). not q.back) (put_on site) p was)

  reply_put : (p : Parcel) → Contains (sent_by ends.filters) p → HasEntry (puts_to site site.disk.beat) p
  reply_put p has =
      let was = subst (λ (l : List Parcel). Contains l p) (only_before replies filters of.no_replies) has in
      entry_of (puts_to site site.disk.beat) p (in_filter (λ (q : Parcel). q.back) (put_on site) p was)

  was_put : (at : ℕ) (p : Parcel) → Contains {X = ℕ × Parcel} (map (λ (parcel : Parcel). (0, parcel)) (sent_by ends.engine ++ sent_by ends.filters)) (at, p)
      → HasEntry (puts_to site site.disk.beat) p
  was_put at p has = elim (Contains-append_cases (sent_by ends.engine) (sent_by ends.filters) p (unmarked (sent_by ends.engine ++ sent_by ends.filters) at p has)) [
    | inl of_engine ↦ command_put p of_engine
    | inr of_filters ↦ reply_put p of_filters
  ]

  image_there : (choice : ℕ → List ℕ) → IsChoiceOfBoth ends choice → (file : ℕ) → file ≤ 16 → IsLeft site.disk file site.disk.beat (choice file)
  image_there choice is zero le = of.journal (choice 0) is.journal
  image_there choice is (suc n) le = of.files (suc n) (omega arith, le) (choice (suc n)) (is.filters (suc n) (omega arith, le))

  good_of_both : AreGood ends
  good_of_both choice is =
      let g = start.good.each choice (image_there choice is) in
      record {
        records = g.records;
        acts = g.acts;
        are_records = g.are_records;
        are_acts = g.are_acts;
        agree = record {
          is_run = g.agree.is_run;
          acts_once = g.agree.acts_once;
          replies = λ at p has back. let put = was_put at p has in g.agree.replies put.at p put.has back;
          commands = λ at p has command of_run. let put = was_put at p has in g.agree.commands put.at p put.has command of_run;
          acts_sent = g.agree.acts_sent;
          answers = g.agree.answers;
        };
      }

  held_of_both : IsHeldAs plain engine (puts_of engine) engine.disk.beat
  held_of_both = record {
    lines = λ image records left are bytes said line. start.held.lines image records (of.journal image left) are bytes (of.said bytes said) line;
    sent = λ image records left are at p has command of_run. never_put engine of.no_commands _ at p has;
    none_while_empty = λ image left empty at p own. none_of_none _ engine engine.disk.beat at p own.has;
    was_open = λ at p own. none_of_none _ engine engine.disk.beat at p own.has;
  }

  fresh_of_both : AreFresh run ends
  fresh_of_both = record {
    acts = λ image left empty agent file acts act a there are has.
        let unused = fresh.unused image (of.journal image left) empty in
        unused.acts agent file acts act a (of.files agent a file there) are has;
    sent = λ image left empty p has.
        let unused = fresh.unused image (of.journal image left) empty in
        let put = command_put p has in
        unused.puts put.at p put.has;
  }

  are_starts : AreStarts run ends
  are_starts = record {
    engine = is_new commands engine of.no_commands;
    filters = is_new replies filters of.no_replies;
    commands = λ p has. not_true p.back (passes (λ (q : Parcel). not q.back) (put_on site) p has);
    replies = λ p has. passes (λ (q : Parcel). q.back) (put_on site) p has;
    some = have_images commands replies engine filters of.some_journal of.some_files;
    good = good_of_both;
    held = held_of_both;
    fresh = fresh_of_both;
  }

pub starts_are_of_both : StartsAreOfBoth
starts_are_of_both run site engine filters start fresh of = are_starts run site engine filters start fresh of

-- ---- and back

-- a parcel put is among those of the site
in_put : (l : List (ℕ × Parcel)) (at : ℕ) (p : Parcel) → Contains l (at, p) → Contains (map (λ (put : ℕ × Parcel). put.1) l) p
in_put [] at p has = none_in _ (at, p) has
in_put (x ∷ l) at p (zero, lt, is) = (zero, omega arith, ap (λ (e : ℕ × Parcel). e.1) is)
in_put (x ∷ l) at p (suc k, lt, is) =
    let rest = in_put l at p (k, omega (arith, lt), is) in
    (suc rest.0, omega (arith, rest.1), rest.2)

module _ (run : ℕ) (first now : Ends) (site : SiteView) (starts : AreStarts run first) (events : Events run first now) (of : IsOfBoth now site) where
  abbrev sent : List Parcel
  sent = sent_by now.engine

  abbrev replied : List Parcel
  replied = sent_by now.filters

  kept : Kept first run now.engine now.filters
  kept = events_kept first run first now events (kept_first run first starts)

  journal : (image : List ℕ) → IsLeft site.disk 0 site.disk.beat image → StandsFor image (JournalFits first run sent replied)
  journal image left = journal_now first run now.engine replied kept.engine kept.got_replies kept.journal image (of.journal image left)

  file : (agent : ℕ) → IsAgent agent → (image : List ℕ) → IsLeft now.filters.site.disk agent now.filters.beat image → StandsForActs image (FileFits first agent sent replied)
  file agent a image left = file_now first now.filters sent kept.filters kept.got_commands kept.files agent a image left

  either_sent : (at : ℕ) (p : Parcel) → Contains (puts_to site site.disk.beat) (at, p) → Contains (sent ++ replied) p
  either_sent at p has = of.puts p (in_put (puts_to site site.disk.beat) at p has)

  good_there : IsGood site site.disk.beat
  good_there = record {
    each = λ choice is.
        let both : IsChoiceOfBoth now choice = record {
          journal = of.journal (choice 0) (is 0 (omega arith));
          filters = λ agent a. of.files agent a (choice agent) (is agent a.1);
        } in
        let g = deliveries_keep_agreement run first now starts events choice both in
        record {
          records = g.records;
          acts = g.acts;
          are_records = g.are_records;
          are_acts = g.are_acts;
          agree = record {
            is_run = g.agree.is_run;
            acts_once = g.agree.acts_once;
            replies = λ at p has back. g.agree.replies 0 p (marked (sent ++ replied) p (either_sent at p has)) back;
            commands = λ at p has command of_run. g.agree.commands 0 p (marked (sent ++ replied) p (either_sent at p has)) command of_run;
            acts_sent = g.agree.acts_sent;
            answers = g.agree.answers;
          };
        };
  }

  sent_there : (image : List ℕ) (records : List Record) → IsLeft site.disk 0 site.disk.beat image → IsRecords image records → CommandsAreSent records (puts_to site site.disk.beat)
  sent_there image records left are at p has command of_run =
      let s = journal image left in
      let fits = subst (λ (l : List Record). JournalFits first run sent replied l) (same_records image s.records records s.are are) s.so in
      elim (Contains-append_cases sent replied p (either_sent at p has)) [
        | inl of_engine ↦ fits.known p.agent p.run p.issue p.bytes of_run
            (inl (record { parcel = p; has = of_engine; command = command; to = refl; of_run = refl; of_issue = refl; is = refl }))
        | inr of_filters ↦ absurd (both_ways p.back command (kept.only_replies p of_filters))
      ]

  held_there : IsHeldAs plain site (puts_of site) site.disk.beat
  held_there = record {
    lines = λ image records left are bytes said line. kept.engine.held.lines image records (of.journal image left) are bytes (of.said bytes said) line;
    sent = sent_there;
    none_while_empty = λ image left empty at p own. none_of_none _ site site.disk.beat at p own.has;
    was_open = λ at p own. none_of_none _ site site.disk.beat at p own.has;
  }

  unused_there : (next : ℕ) → MayUse first run next → (image : List ℕ) → IsLeft site.disk 0 site.disk.beat image → Stands image [] → IsUnused site next site.disk.beat
  unused_there next may image left empty =
      let s = journal image left in
      let none : s.records ≡ [] = none_of_empty image s.records empty s.are in
      record {
        acts = λ agent image acts act a there are has.
            let t = file agent a image (of.files agent a image there) in
            let fits = subst (λ (l : List Act). FileFits first agent sent replied l) (same_acts image t.acts acts t.are are) t.so in
            s.so.unused none next may agent act.run act.issue act.command (fits.known act has);
        puts = λ at p has. elim (Contains-append_cases sent replied p (either_sent at p has)) [
          | inl of_engine ↦ s.so.unused none next may p.agent p.run p.issue p.bytes
              (inl (record { parcel = p; has = of_engine; command = kept.only_commands p of_engine; to = refl; of_run = refl; of_issue = refl; is = refl }))
          | inr of_filters ↦
              let a = kept.agents p of_filters in
              let some = of.some_files p.agent a in
              let t = file p.agent a some.image some.left in
              let reply = t.so.replies_of p of_filters (kept.only_replies p of_filters) refl in
              λ same. s.so.unused none next may p.agent reply.act.run reply.act.issue reply.act.command (t.so.known reply.act reply.has) (reply.of_run ∙ same)
        ];
      }

pub deliveries_leave_starts : DeliveriesLeaveStarts
deliveries_leave_starts run first now site starts events of = (
  record { good = good_there run first now site starts events of; held = held_there run first now site starts events of },
  record { unused = unused_there run first now site starts events of run (inl refl) },
  λ next fresh. record { unused = unused_there run first now site starts events of next (inr fresh) },
)

pub new_runs_are_starts : NewRunsAreStarts
new_runs_are_starts run next first now old site engine filters starts events of is unused ends =
    let left = deliveries_leave_starts run first now old starts events of in
    let new = begins_anew plain old site old.disk.beat is left.0.good in
    starts_are_of_both next site engine filters new.0 (new.1 next unused) ends
