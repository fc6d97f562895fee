-- From what a call says of the site to what the filters' end keeps at each beat of the call.
use Rattle.std.proofs.Common.{◌≡◌, ◌⊎◌, inl, inr, ℕ, ◌≤◌, ◌<◌, true, List, [], ◌∷◌, ◌++◌, subst, ap, IsTrue, arith}
use Rattle.std.specs.Prelude.{drop, Contains, None, IsSome}
use Rattle.std.proofs.lemmas.Bool.{cases_lt}
use Rattle.cacao_site.specs.View.{SiteView, LinkView}
use Rattle.cacao_site.specs.declared.parcel.Parcel.{Parcel}
use Rattle.cacao_site.specs.DiskCalls.{IsLeft, GoesOn, KeepsDisk, OnlyFile}
use Rattle.cacao_site.specs.SiteCalls.{Puts}
use Rattle.cacao_site.specs.Sound.{IsSound}
use Rattle.cacao_site.proofs.Beats.{told-goes_on}
use Rattle.run_records.specs.declared.act.Act.{Act}
use Rattle.slpf_rules_acts.specs.Acts.{AreActs}
use Rattle.flow_laws.specs.Beats.{OnlyChanges}
use Rattle.flow_laws.specs.Held.{plain}
use Rattle.flow_laws.specs.Images.{HasImage, IsActs, IsAgent, told_list}
use Rattle.oc2_wire_laws.specs.Ends.{FiltersKeep, HasGotCommand, IsActedEverywhere, IsFiltersStart}
use Rattle.oc2_wire_laws.specs.FilterBeats.{FiltersShrink}
use Rattle.oc2_wire_laws.specs.Since.{FiltersKeepSince, taken_before, takes_of}
use Rattle.oc2_wire_laws.proofs.Changes.{LinkGoesOn, begun_changes, past_changes, put_changes, put_link, quiet_changes, same_link, same_puts}
use Rattle.oc2_wire_laws.proofs.FilterCalls.{act_is_kept, reply_is_kept, shrunk_are_kept}
use Rattle.oc2_wire_laws.proofs.Kept.{more_for_filters}
use Rattle.oc2_wire_laws.proofs.Taken.{more_before}

shrink_of : (earlier : SiteView) (early : ℕ) (later : SiteView) (late : ℕ) → OnlyChanges plain None None None earlier early later late → FiltersShrink earlier early later late
shrink_of earlier early later late only = record { images = λ agent a. only.images agent a.1 tt; puts = only.puts }

-- at the start it is kept
pub filters_begin : (site : SiteView) → IsTrue site.disk.told → IsSome site.link.puts → IsSome site.link.taken → IsFiltersStart site → FiltersKeepSince site site
filters_begin site told puts taken is = record {
  told = told;
  puts = puts;
  taken = taken;
  later = omega arith;
  each = λ beat from to.
      let here : site.disk.beat ≡ beat = omega (arith, from, to) in
      subst (λ (n : ℕ). FiltersKeep site (taken_before (takes_of site) site n) site n) here
      (more_for_filters site [] (taken_before (takes_of site) site site.disk.beat) site site.disk.beat (λ parcel has. absurd (omega (arith, has.1))) is);
}

module _ (start : SiteView) (old new : SiteView) (kept : FiltersKeepSince start old) (sound : IsSound old)
    (puts_told : IsSome new.link.puts) (taken_told : IsSome new.link.taken)
    (all : (e : ℕ × Parcel) → Contains (drop (takes_of start) (told_list old.link.taken)) e → Contains (drop (takes_of start) (told_list new.link.taken)) e) where
  abbrev got_by : ℕ → List Parcel
  got_by beat = taken_before (takes_of start) new beat

  -- what was kept, with what was taken before a later beat
  kept_then : (beat late : ℕ) → start.disk.beat ≤ beat → beat ≤ old.disk.beat → beat ≤ late → FiltersKeep start (got_by late) old beat
  kept_then beat late from to le =
      more_for_filters start (taken_before (takes_of start) old beat) (got_by late) old beat
      (more_before (drop (takes_of start) (told_list old.link.taken)) (drop (takes_of start) (told_list new.link.taken)) beat late le all) (kept.each beat from to)

  -- what was kept before the call stays, so the beats of the call are left to show
  goes_on : GoesOn old.disk new.disk → LinkGoesOn old new → ((beat : ℕ) → old.disk.beat ≤ beat → beat ≤ new.disk.beat
      → FiltersKeep start (got_by beat) old old.disk.beat → FiltersKeep start (got_by beat) new beat) → FiltersKeepSince start new
  goes_on on link here = record {
    told = told-goes_on on kept.told;
    puts = puts_told;
    taken = taken_told;
    later = omega (arith, kept.later, on.later);
    each = λ beat from to. elim (cases_lt beat old.disk.beat) [
      | inl early ↦ shrunk_are_kept start (got_by beat) old beat new beat (shrink_of old beat new beat (past_changes old new beat on link early))
          (kept_then beat beat from (omega (arith, early)) (omega arith))
      | inr late ↦ here beat late to (kept_then old.disk.beat beat kept.later (omega arith) late)
    ];
  }

  pub filters_quiet : KeepsDisk old.disk new.disk → new.link.puts ≡ old.link.puts → new.link.said ≡ old.link.said → FiltersKeepSince start new
  filters_quiet keeps puts said = goes_on keeps.goes_on (same_link old new puts said) (λ beat from to now.
      shrunk_are_kept start (got_by beat) old old.disk.beat new beat
      (shrink_of old old.disk.beat new beat (quiet_changes old new sound keeps.goes_on keeps.stays puts said beat from to)) now)

  -- where files are opened: each image on the way was one before
  pub filters_opened : GoesOn old.disk new.disk → new.link ≡ old.link
      → ((agent : ℕ) → IsAgent agent → (beat : ℕ) (image : List ℕ) → old.disk.beat ≤ beat → beat ≤ new.disk.beat → IsLeft new.disk agent beat image
      → IsLeft old.disk agent old.disk.beat image) → FiltersKeepSince start new
  filters_opened on link images =
      let puts = ap (λ (l : LinkView). l.puts) link in
      goes_on on (same_link old new puts (ap (λ (l : LinkView). l.said) link)) (λ beat from to now.
      shrunk_are_kept start (got_by beat) old old.disk.beat new beat
      (record { images = λ agent a image left. images agent a beat image from to left; puts = same_puts old new sound puts beat from }) now)

  -- at the beat at which the call began, the files are as they were
  pub filters_act : (agent : ℕ) (acts : List Act) (act : Act) → IsAgent agent → OnlyFile agent old new (λ image. IsActs image acts ⊎ IsActs image (acts ++ act ∷ []))
      → HasImage old agent old.disk.beat → ((image : List ℕ) → IsLeft old.disk agent old.disk.beat image → IsActs image acts) → AreActs (acts ++ act ∷ [])
      → ((beat : ℕ) → old.disk.beat < beat → HasGotCommand agent (got_by beat) act) → FiltersKeepSince start new
  filters_act agent acts act is_agent only some before are command =
      let puts = ap (λ (l : LinkView). l.puts) only.rest.link in
      let said = ap (λ (l : LinkView). l.said) only.rest.link in
      goes_on only.each.goes_on (same_link old new puts said) (λ beat from to now. elim (cases_lt old.disk.beat beat) [
        | inl late ↦
            act_is_kept agent acts act start (got_by beat) old old.disk.beat new beat (record {
              images = λ other a ne image left. subst IsTrue ((only.others other ne).images beat image from to) left;
              puts = same_puts old new sound puts beat from;
              is_agent = is_agent;
              some = some;
              before = before;
              now = λ image left. only.each.each kept.told beat image from to left;
              are_acts = are;
              command = command beat late;
            }) now
        | inr here ↦
            let same : old.disk.beat ≡ beat = omega (arith, from, here) in
            let quiet = shrink_of old old.disk.beat new old.disk.beat (begun_changes old new sound only.each.goes_on puts said) in
            subst (λ (n : ℕ). FiltersKeep start (got_by beat) new n) same (shrunk_are_kept start (got_by beat) old old.disk.beat new old.disk.beat quiet now)
      ])

  pub filters_reply : (parcel : Parcel) → Puts parcel old new → parcel.back ≡ true → IsActedEverywhere old old.disk.beat parcel → FiltersKeepSince start new
  filters_reply parcel puts back acted = goes_on puts.disk.disk.goes_on (put_link old new sound parcel puts) (λ beat from to now. elim (put_changes old new sound parcel puts beat from to) [
    | inl same ↦ shrunk_are_kept start (got_by beat) old old.disk.beat new beat (shrink_of old old.disk.beat new beat same) now
    | inr more ↦ reply_is_kept parcel start (got_by beat) old old.disk.beat new beat
        (record { images = λ agent a. more.images agent a.1 tt; puts = more.puts; back = back; acted = acted }) now
  ])
