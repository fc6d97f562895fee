-- From what a call says of the site to what the engine's end keeps at each beat of the call.
use Rattle.std.proofs.Common.{◌≡◌, ◌≢◌, ◌⊎◌, inl, inr, ℕ, ◌≤◌, ◌<◌, false, List, [], ◌∷◌, ◌++◌, subst, ap, arith}
use Rattle.std.specs.Prelude.{drop, Contains, Some, IsSome}
use Rattle.std.proofs.lemmas.Bool.{cases_lt}
use Rattle.cacao_site.specs.View.{SiteView, LinkView}
use Rattle.cacao_site.specs.declared.parcel.Parcel.{Parcel}
use Rattle.cacao_site.specs.DiskCalls.{IsLeft, GoesOn, KeepsDisk, OnlyFile}
use Rattle.cacao_site.specs.LinkCalls.{Gains}
use Rattle.cacao_site.specs.SiteCalls.{Puts}
use Rattle.cacao_site.specs.Sound.{IsSound}
use Rattle.cacao_site.proofs.Beats.{told-goes_on}
use Rattle.run_records.specs.declared.record.Record.{Record}
use Rattle.flow_laws.specs.Held.{HasOpenSend, IsLineOf, plain}
use Rattle.flow_laws.specs.Images.{EachJournal, HasImage, IsRecords, puts_to, told_list}
use Rattle.flow_laws.specs.Journals.{IsJournalRun, run_of}
use Rattle.oc2_wire_laws.specs.Ends.{EngineKeeps, IsOfReplies}
use Rattle.oc2_wire_laws.proofs.EngineCalls.{command_is_kept, line_is_kept, shrunk_is_kept}
use Rattle.oc2_wire_laws.proofs.EngineRecord.{record_is_kept}
use Rattle.oc2_wire_laws.proofs.Kept.{more_is_got}
use Rattle.oc2_wire_laws.specs.Since.{EngineKeepsSince, taken_before, takes_of}
use Rattle.oc2_wire_laws.proofs.Taken.{more_before}
use Rattle.oc2_wire_laws.proofs.Changes.{LinkGoesOn, begun_changes, journal_changes, line_changes, line_link, past_changes, put_changes, put_link, quiet_changes, same_link}

-- ---- one call more

module _ (start : SiteView) (run : ℕ) (old new : SiteView) (kept : EngineKeepsSince start run old) (sound : IsSound old)
    (puts_told : IsSome new.link.puts) (taken_told : IsSome new.link.taken)
    (all : (e : ℕ × Parcel) → Contains (drop (takes_of start) (told_list old.link.taken)) e → Contains (drop (takes_of start) (told_list new.link.taken)) e) where
  -- what was kept, with what was taken before a later beat
  then_ : (beat late : ℕ) → start.disk.beat ≤ beat → beat ≤ old.disk.beat → beat ≤ late → EngineKeeps start run (taken_before (takes_of start) new late) old beat
  then_ beat late from to le =
      more_is_got start run (taken_before (takes_of start) old beat) (taken_before (takes_of start) new late) old beat
      (more_before (drop (takes_of start) (told_list old.link.taken)) (drop (takes_of start) (told_list new.link.taken)) beat late le all) (kept.each beat from to)

  -- what was kept before the call stays, so the beats of the call are left to show
  extend : GoesOn old.disk new.disk → LinkGoesOn old new → ((beat : ℕ) → old.disk.beat ≤ beat → beat ≤ new.disk.beat
      → EngineKeeps start run (taken_before (takes_of start) new beat) old old.disk.beat → EngineKeeps start run (taken_before (takes_of start) new beat) new beat) → EngineKeepsSince start run new
  extend on link here = record {
    told = told-goes_on on kept.told;
    puts = puts_told;
    taken = taken_told;
    later = omega (arith, kept.later, on.later);
    each = λ beat from to. elim (cases_lt beat old.disk.beat) [
      | inl early ↦ shrunk_is_kept start run (taken_before (takes_of start) new beat) old beat new beat (past_changes old new beat on link early) (then_ beat beat from (omega (arith, early)) (omega arith))
      | inr late ↦ here beat late to (then_ old.disk.beat beat kept.later (omega arith) late)
    ];
  }

  pub since_quiet : KeepsDisk old.disk new.disk → new.link.puts ≡ old.link.puts → new.link.said ≡ old.link.said → EngineKeepsSince start run new
  since_quiet keeps puts said = extend keeps.goes_on (same_link old new puts said) (λ beat from to now.
      shrunk_is_kept start run (taken_before (takes_of start) new beat) old old.disk.beat new beat (quiet_changes old new sound keeps.goes_on keeps.stays puts said beat from to) now)

  -- at the beat at which the call began, the journal is as it was
  pub since_record : (records : List Record) (next : Record) → OnlyFile 0 old new (λ image. IsRecords image records ⊎ IsRecords image (records ++ next ∷ [])) → HasImage old 0 old.disk.beat
      → ((image : List ℕ) → IsLeft old.disk 0 old.disk.beat image → IsRecords image records) → IsJournalRun (records ++ next ∷ []) → (records ≡ [] → run_of (next ∷ []) ≡ Some run)
      → (records ≡ [] → (at : ℕ) (parcel : Parcel) → Contains (puts_to old old.disk.beat) (at, parcel) → parcel.run ≢ run)
      → ((beat : ℕ) → old.disk.beat < beat → IsOfReplies (taken_before (takes_of start) new beat) (records ++ next ∷ []) next) → EngineKeepsSince start run new
  since_record records next only some before is_run first unused reply =
      let puts = ap (λ (l : LinkView). l.puts) only.rest.link in
      let said = ap (λ (l : LinkView). l.said) only.rest.link in
      extend only.each.goes_on (same_link old new puts said) (λ beat from to now. elim (cases_lt old.disk.beat beat) [
        | inl late ↦
            record_is_kept start run (taken_before (takes_of start) new beat) old old.disk.beat new beat records next (record {
              only = journal_changes old new sound _ only beat from to;
              some = some;
              before = before;
              now = λ image left. only.each.each kept.told beat image from to left;
              is_run = is_run;
              first = first;
              unused = unused;
              reply = reply beat late;
            }) now
        | inr here ↦
            let same : old.disk.beat ≡ beat = omega (arith, from, here) in
            let quiet = begun_changes old new sound only.each.goes_on puts said in
            subst (λ (n : ℕ). EngineKeeps start run (taken_before (takes_of start) new beat) new n) same
            (shrunk_is_kept start run (taken_before (takes_of start) new beat) old old.disk.beat new old.disk.beat quiet now)
      ])

  pub since_command : (parcel : Parcel) → Puts parcel old new → parcel.back ≡ false → EachJournal old old.disk.beat (λ records. HasOpenSend records parcel) → EngineKeepsSince start run new
  since_command parcel puts command sent = extend puts.disk.disk.goes_on (put_link old new sound parcel puts) (λ beat from to now. elim (put_changes old new sound parcel puts beat from to) [
    | inl same ↦ shrunk_is_kept start run (taken_before (takes_of start) new beat) old old.disk.beat new beat same now
    | inr more ↦ command_is_kept parcel start run (taken_before (takes_of start) new beat) old old.disk.beat new beat (record { only = more; command = command; sent = sent }) now
  ])

  pub since_line : (line : List ℕ) → KeepsDisk old.disk new.disk → new.link.puts ≡ old.link.puts → Gains old.link.said (new.disk.beat, line) new.link.said
      → EachJournal old old.disk.beat (λ records. IsLineOf plain records line) → EngineKeepsSince start run new
  since_line line keeps puts gained stands = extend keeps.goes_on (line_link old new sound line keeps puts gained) (λ beat from to now.
      line_is_kept line start run (taken_before (takes_of start) new beat) old old.disk.beat new beat (record { only = line_changes old new sound line keeps puts gained beat from to; stands = stands }) now)
