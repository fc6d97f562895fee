-- What the calls of the filters' end do to what it keeps.
use Rattle.std.proofs.Common.{◌≡◌, ◌⊎◌, inl, inr, ℕ, ◌+◌, ◌≤◌, ◌<◌, true, false, List, [], ◌∷◌, ◌++◌, length, refl, sym, ◌∙◌, subst, ap, IsTrue, arith}
use Rattle.std.specs.Prelude.{drop, Contains, Option, IsSome}
use Rattle.std.specs.List.{AllByRecursion}
use Rattle.std.proofs.lemmas.Bool.{cases_lt}
use Rattle.std.proofs.lemmas.List.Elements.{Contains-push}
use Rattle.cacao_site.specs.DiskCalls.{IsLeft, KeepsDisk, OnlyFile}
use Rattle.cacao_site.specs.SiteCalls.{Puts, TakesOnly, TakesSome}
use Rattle.cacao_site.specs.Sound.{IsSound}
use Rattle.cacao_site.specs.View.{LinkView, SiteView}
use Rattle.cacao_site.specs.declared.parcel.Parcel.{Parcel}
use Rattle.cacao_site.proofs.Beats.{each-weaken, goes_on-trans, told-goes_on}
use Rattle.run_records.specs.Ranges.{ActInRange}
use Rattle.run_records.specs.declared.act.Act.{Act}
use Rattle.flow_laws.specs.Acts.{HasReply, IsBytes}
use Rattle.flow_laws.specs.Images.{EachFilter, IsActs, IsAgent, told_list}
use Rattle.flow_laws.proofs.OneList.{acts_of_layout}
use Rattle.slpf_actuator.specs.ActuatorCalls.{Acts, MayHaveDone, Offers, Repeats}
use Rattle.slpf_actuator.specs.ActuatorView.{ActuatorView, act_for, reply_parcel_of}
use Rattle.slpf_actuator.specs.declared.error.ActError.{ActError}
use Rattle.slpf_actuator.specs.declared.error.ActError.TheVariants as act_error
use Rattle.slpf_actuator.proofs.ActLemmas.{acts_push}
use Rattle.flow_world_steps.specs.Sides.{IsFilter}
use Rattle.flow_world_steps.proofs.FilterCalls.{has_acts}
use Rattle.flow_world_steps.proofs.Sites.{some_gained, some_same, sound_between}
use Rattle.flow_world_parts.specs.Openings.{OpensFilters, RefusesFilters}
use Rattle.flow_world_parts.specs.declared.error.WorldError.{WorldError}
use Rattle.oc2_wire_laws.specs.Ends.{HasGotCommand, IsFiltersStart}
use Rattle.oc2_wire_laws.specs.Since.{taken_before, takes_of}
use Rattle.oc2_wire_laws.proofs.FilterSince.{filters_act, filters_begin, filters_opened, filters_quiet, filters_reply}
use Rattle.oc2_wire_laws.proofs.Taken.{gained_list, in_before, longer, still_taken}
use Rattle.oc2_wire.specs.FilterTurns.{KeptTo}

all_more : {A : Type 0} (P : A → Type 0) (xs : List A) (x : A) → AllByRecursion P xs → P x → AllByRecursion P (xs ++ x ∷ [])
all_more P [] x all is = (is, tt)
all_more P (y ∷ xs) x all is = (all.0, all_more P xs x all.1 is)

-- the parcels that were taken in the call, each with its beat
abbrev pub taken_since : SiteView → SiteView → List (ℕ × Parcel)
taken_since start site = drop (takes_of start) (told_list site.link.taken)

-- ---- where none was taken

module _ (start old new : SiteView) (same : new.link.taken ≡ old.link.taken) where
  all_same : (e : ℕ × Parcel) → Contains (taken_since start old) e → Contains (taken_since start new) e
  all_same e has = subst (λ (o : Option (List (ℕ × Parcel))). Contains (drop (takes_of start) (told_list o)) e) (sym same) has

  more_same : takes_of start ≤ takes_of old → takes_of start ≤ takes_of new
  more_same le = subst (λ (o : Option (List (ℕ × Parcel))). takes_of start ≤ length (told_list o)) (sym same) le

-- ---- calls that leave disk, puts and lines

pub kept_quiet : (start old new : SiteView) → IsSound old → KeepsDisk old.disk new.disk → new.link.puts ≡ old.link.puts → new.link.said ≡ old.link.said → new.link.taken ≡ old.link.taken
    → KeptTo start old → KeptTo start new
kept_quiet start old new sound keeps puts said taken kept = record {
  kept = filters_quiet start old new kept.kept sound (some_same old.link.puts new.link.puts puts kept.kept.puts) (some_same old.link.taken new.link.taken taken kept.kept.taken)
      (all_same start old new taken) keeps puts said;
  more = more_same start old new taken kept.more;
}

-- a parcel was taken
pub kept_took : (start old new : SiteView) (parcel : Parcel) → IsSound old → TakesOnly old new → TakesSome parcel old new → KeptTo start old → KeptTo start new
kept_took start old new parcel sound only some kept =
    let x : ℕ × Parcel = (new.disk.beat, parcel) in
    let is = gained_list old.link.taken new.link.taken x kept.kept.taken some.taken in
    record {
      kept = filters_quiet start old new kept.kept sound (some_same old.link.puts new.link.puts only.puts kept.kept.puts) (some_gained old.link.taken new.link.taken x some.taken kept.kept.taken)
          (still_taken (takes_of start) (told_list old.link.taken) (told_list new.link.taken) x kept.more is) only.disk.disk only.puts only.said;
      more = subst (λ (l : List (ℕ × Parcel)). takes_of start ≤ length l) (sym is) (longer (takes_of start) (told_list old.link.taken) x kept.more);
    }

-- ---- the opening

pub kept_first : (site : SiteView) → IsTrue site.disk.told → IsSome site.link.puts → IsSome site.link.taken → IsFiltersStart site → KeptTo site site
kept_first site told puts taken start = record { kept = filters_begin site told puts taken start; more = omega arith }

pub kept_opened : (start old new : SiteView) (fs : List ActuatorView) → IsSound old → OpensFilters 16 old new fs → KeptTo start old → KeptTo start new
kept_opened start old new fs sound opens kept =
    let link = opens.rest.link in
    let puts = ap (λ (l : LinkView). l.puts) link in
    let taken = ap (λ (l : LinkView). l.taken) link in
    record {
      kept = filters_opened start old new kept.kept sound (some_same old.link.puts new.link.puts puts kept.kept.puts) (some_same old.link.taken new.link.taken taken kept.kept.taken)
          (all_same start old new taken) opens.goes_on link (λ agent a beat image from to left. opens.images agent a.0 a.1 beat image kept.kept.told from to left);
      more = more_same start old new taken kept.more;
    }

module _ (old new : SiteView) (error : WorldError) (is : RefusesFilters error old new) (told : IsTrue old.disk.told) (agent : ℕ) (a : IsAgent agent) (image : List ℕ) where
  mid : SiteView
  mid = is.middle

  -- an image on the way to the file that was refused
  at_middle : (beat : ℕ) → old.disk.beat ≤ beat → beat ≤ is.middle.disk.beat → IsLeft is.middle.disk agent beat image → IsLeft old.disk agent old.disk.beat image
  at_middle beat from to left = elim (cases_lt is.agent agent) [
    | inl above ↦ subst IsTrue ((is.before.others agent (inr above)).images beat image from to) left
    | inr below ↦ is.before.images agent a.0 below beat image told from to left
  ]

  pub image_was : (beat : ℕ) → old.disk.beat ≤ beat → beat ≤ new.disk.beat → IsLeft new.disk agent beat image → IsLeft old.disk agent old.disk.beat image
  image_was beat from to left =
      let only = is.refuses.opens.only in
      elim (cases_lt beat is.middle.disk.beat) [
        | inl early ↦ at_middle beat from (omega (arith, early)) (subst IsTrue (only.each.goes_on.past agent beat image (omega (arith, early))) left)
        | inr late ↦ at_middle is.middle.disk.beat is.before.goes_on.later (omega arith) (elim (cases_lt agent (is.agent + 1)) [
          | inl below ↦ subst IsTrue ((only.others agent (λ e. absurd (omega (arith, e, below)))).images beat image late to) left
          | inr not_below ↦ elim (cases_lt (is.agent + 1) agent) [
            | inl above ↦ subst IsTrue ((only.others agent (λ e. absurd (omega (arith, e, above)))).images beat image late to) left
            | inr not_above ↦
                let here : agent ≡ is.agent + 1 = omega (arith, not_below, not_above) in
                subst (λ (n : ℕ). IsLeft is.middle.disk n is.middle.disk.beat image) (sym here)
                (only.each.each (told-goes_on is.before.goes_on told) beat image late to (subst (λ (n : ℕ). IsLeft new.disk n beat image) here left))
          ]
        ])
      ]

pub kept_refused : (start old new : SiteView) (error : WorldError) → IsSound old → RefusesFilters error old new → KeptTo start old → KeptTo start new
kept_refused start old new error sound is kept =
    let only = is.refuses.opens.only in
    let link = only.rest.link ∙ is.before.rest.link in
    let puts = ap (λ (l : LinkView). l.puts) link in
    let taken = ap (λ (l : LinkView). l.taken) link in
    record {
      kept = filters_opened start old new kept.kept sound (some_same old.link.puts new.link.puts puts kept.kept.puts) (some_same old.link.taken new.link.taken taken kept.kept.taken)
          (all_same start old new taken) (goes_on-trans is.before.goes_on only.each.goes_on) link
          (λ agent a beat image from to left. image_was old new error is kept.kept.told agent a image beat from to left);
      more = more_same start old new taken kept.more;
    }

-- ---- a command

-- a reply was put whose act is in every image
kept_reply : (start old new : SiteView) (parcel : Parcel) → IsSound old → (IsTrue old.disk.told → EachFilter old old.disk.beat parcel.agent (λ acts. HasReply acts parcel.run parcel.issue (IsBytes parcel.bytes)))
    → parcel.back ≡ true → IsAgent parcel.agent → Puts parcel old new → KeptTo start old → KeptTo start new
kept_reply start old new parcel sound acted back is_agent puts kept = record {
  kept = filters_reply start old new kept.kept sound (put_told kept.kept.puts) (some_same old.link.taken new.link.taken puts.taken kept.kept.taken) (all_same start old new puts.taken)
      parcel puts back (record { is_agent = is_agent; each = acted kept.kept.told });
  more = more_same start old new puts.taken kept.more;
}
  where
    put_told : IsSome old.link.puts → IsSome new.link.puts
    put_told some = elim puts.puts [
      | inl gained ↦ some_gained old.link.puts new.link.puts _ gained some
      | inr lost ↦ some_same old.link.puts new.link.puts lost.0 some
    ]

module _ (start old : SiteView) (v : ActuatorView) (parcel : Parcel) (moment at : ℕ) (sound : IsSound old) (filter : IsFilter v parcel.agent old) (command : parcel.back ≡ false)
    (has : KeptTo start old → Contains (taken_since start old) (at, parcel)) (early : at ≤ old.disk.beat) where
  act : Act
  act = act_for v.acts parcel moment

  got : KeptTo start old → (new : SiteView) → new.link.taken ≡ old.link.taken → (beat : ℕ) → old.disk.beat < beat
      → HasGotCommand v.agent (taken_before (takes_of start) new beat) (act_for v.acts parcel moment)
  got kept new same beat late = record {
    parcel = parcel;
    has = in_before (taken_since start new) beat at parcel (all_same start old new same (at, parcel) (has kept)) (omega (arith, early, late));
    command = command;
    to = sym filter.of_agent;
    of_run = refl;
    of_issue = refl;
    bytes = refl;
  }

  -- the act may have been appended
  pub kept_offers : (new : SiteView) → Offers v parcel moment old new → KeptTo start old → KeptTo start new
  kept_offers new offers kept =
      let one = act_for v.acts parcel moment in
      let only : OnlyFile v.agent old new (λ image. IsActs image v.acts ⊎ IsActs image (v.acts ++ one ∷ [])) = record {
        each = each-weaken offers.adds.file.each (λ told image is. elim is [
          | inl before ↦ inl (acts_of_layout image v.acts filter.ready.history.ranges before)
          | inr after ↦ inr (acts_of_layout image (v.acts ++ one ∷ []) (all_more ActInRange v.acts one filter.ready.history.ranges offers.in_range) after)
        ]);
        others = offers.adds.file.others;
        rest = offers.adds.file.rest;
      } in
      let some = sound.images v.agent old.disk.beat kept.kept.told (omega arith) in
      let puts = ap (λ (l : LinkView). l.puts) only.rest.link in
      let taken = ap (λ (l : LinkView). l.taken) only.rest.link in
      record {
        kept = filters_act start old new kept.kept sound (some_same old.link.puts new.link.puts puts kept.kept.puts) (some_same old.link.taken new.link.taken taken kept.kept.taken)
            (all_same start old new taken) v.agent v.acts one (filter.ready.low, filter.ready.high) only (record { image = some.0; left = some.1 })
            (has_acts v parcel.agent old filter kept.kept.told) (acts_push v.acts one filter.ready.history.are (record { is_new = offers.is_new; replied = refl }))
            (got kept new taken);
        more = more_same start old new taken kept.more;
      }

  -- the act was appended, and its reply put
  pub kept_acts : (w : ActuatorView) (new : SiteView) → IsSound new → Acts v w parcel moment old new → KeptTo start old → KeptTo start new
  kept_acts w new after acts kept =
      let mid = acts.between in
      let one = act_for v.acts parcel moment in
      let mid_sound = sound_between old mid new v.agent _ sound after acts.offers.adds.file acts.puts.disk.disk in
      let acted : IsTrue mid.disk.told → EachFilter mid mid.disk.beat v.agent (λ acts. HasReply acts parcel.run parcel.issue (IsBytes one.reply)) = λ told image left. record {
        acts = v.acts ++ one ∷ [];
        are = acts_of_layout image (v.acts ++ one ∷ []) (all_more ActInRange v.acts one filter.ready.history.ranges acts.offers.in_range) (acts.durable told image left);
        so = record { act = one; has = Contains-push v.acts one; of_run = refl; of_issue = refl; reply = refl };
      } in
      kept_reply start mid new (reply_parcel_of v.agent parcel one.reply) mid_sound acted refl (filter.ready.low, filter.ready.high) acts.puts (kept_offers mid acts.offers kept)

  -- the reply of an earlier act was put
  pub kept_repeats : (w : ActuatorView) (new : SiteView) → Repeats v w parcel old new → KeptTo start old → KeptTo start new
  kept_repeats w new repeats kept =
      kept_reply start old new (reply_parcel_of v.agent parcel repeats.act.reply) sound
      (λ told image left. record {
        acts = v.acts;
        are = has_acts v parcel.agent old filter told image left;
        so = record { act = repeats.act; has = repeats.acted.has; of_run = repeats.acted.of_run; of_issue = repeats.acted.of_issue; reply = refl };
      }) refl (filter.ready.low, filter.ready.high) repeats.puts kept

  -- it was refused
  pub kept_did : (error : ActError) (new : SiteView) → MayHaveDone error v parcel moment old new → KeptTo start old → KeptTo start new
  kept_did act_error.Disk new did kept = kept_offers new did kept
  kept_did act_error.Memory new did kept = elim did [
    | inl none ↦ subst (λ (s : SiteView). KeptTo start s) (sym none) kept
    | inr offers ↦ kept_offers new offers kept
  ]
  kept_did (act_error.Full needed) new did kept = subst (λ (s : SiteView). KeptTo start s) (sym did) kept
  kept_did (act_error.Damaged place) new did kept = subst (λ (s : SiteView). KeptTo start s) (sym did) kept
  kept_did act_error.Broken new did kept = subst (λ (s : SiteView). KeptTo start s) (sym did) kept
