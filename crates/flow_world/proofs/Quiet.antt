-- The opening of files keeps agreement: each image on the way was one before.
use Rattle.std.proofs.Common.{◌≡◌, ◌≢◌, ◌⊎◌, inl, inr, ℕ, ◌+◌, ◌≤◌, List, sym, ◌∙◌, subst, ap, arith}
use Rattle.std.specs.Prelude.{Option, IsTrue, IsSome}
use Rattle.std.proofs.lemmas.Bool.{cases_lt}
use Rattle.cacao_site.specs.DiskCalls.{GoesOn, IsLeft}
use Rattle.cacao_site.specs.Sound.{IsSound}
use Rattle.cacao_site.specs.View.{LinkView, SiteView}
use Rattle.cacao_site.specs.declared.parcel.Parcel.{Parcel}
use Rattle.cacao_site.proofs.Beats.{goes_on-trans}
use Rattle.flow_world_parts.specs.EngineView.{EngineView}
use Rattle.flow_laws.specs.Fresh.{IsFresh}
use Rattle.flow_laws.specs.Held.{plain}
use Rattle.flow_laws.specs.Since.{AgreedSince}
use Rattle.flow_laws.proofs.Calls.{since_quiet, since_start}
use Rattle.flow_core_rules.specs.Givens.{Given}
use Rattle.flow_world_parts.specs.ActuatorView.{ActuatorView}
use Rattle.flow_world_parts.specs.Agreement.{HasKept}
use Rattle.flow_world_parts.specs.Steps.{Steps}
use Rattle.flow_world_parts.specs.Worlds.{World, holds, opened}
use Rattle.flow_world_parts.proofs.Agreement.{steps_keep_agreement}
use Rattle.flow_world_parts.specs.Openings.{AreOpen, OpensFile, OpensFilters, RefusesOpening}
use Rattle.flow_world.specs.Sessions.{IsStart, KeepsAgreement}
use Rattle.flow_world_parts.specs.declared.error.WorldError.{WorldError}

-- nothing was written, put or said, and each image was one before
record IsQuiet (a b : SiteView) : Type 0 where
  pub on : GoesOn a.disk b.disk
  pub stays : (file : ℕ) → file ≤ 16 → (beat : ℕ) (image : List ℕ) → a.disk.beat ≤ beat → beat ≤ b.disk.beat → IsLeft b.disk file beat image → IsLeft a.disk file a.disk.beat image
  pub link : b.link ≡ a.link

quiet_then : (a b c : SiteView) → IsQuiet a b → IsQuiet b c → IsQuiet a c
quiet_then a b c one two = record {
  on = goes_on-trans one.on two.on;
  stays = λ file high beat image from to left. elim (cases_lt beat b.disk.beat) [
    | inl early ↦ one.stays file high beat image from (omega (arith, early)) (subst IsTrue (two.on.past file beat image (omega (arith, early))) left)
    | inr late ↦ one.stays file high b.disk.beat image one.on.later (omega arith) (two.stays file high beat image late to left)
  ];
  link = two.link ∙ one.link;
}

same_or_not : (a b : ℕ) → (a ≡ b) ⊎ (a ≢ b)
same_or_not a b = elim (cases_lt a b) [
  | inl lt ↦ inr (λ e. absurd (omega (arith, lt, e)))
  | inr ge ↦ elim (cases_lt b a) [ inl gt ↦ inr (λ e. absurd (omega (arith, gt, e))) | inr le ↦ inl (omega (arith, ge, le)) ]
]

quiet_file : (file : ℕ) (a b : SiteView) → IsTrue a.disk.told → OpensFile file a b → IsQuiet a b
quiet_file file a b told is = record {
  on = is.only.each.goes_on;
  stays = λ other high beat image from to left. elim (same_or_not other file) [
    | inl e ↦ subst (λ (f : ℕ). IsLeft a.disk f a.disk.beat image) (sym e) (is.only.each.each told beat image from to (subst (λ (f : ℕ). IsLeft b.disk f beat image) e left))
    | inr ne ↦ subst IsTrue ((is.only.others other ne).images beat image from to) left
  ];
  link = is.only.rest.link;
}

quiet_filters : (n : ℕ) (a b : SiteView) (filters : List ActuatorView) → IsTrue a.disk.told → OpensFilters n a b filters → IsQuiet a b
quiet_filters n a b filters told is = record {
  on = is.goes_on;
  stays = λ file high beat image from to left. elim (cases_lt n file) [
    | inl past ↦ subst IsTrue ((is.others file (inr past)).images beat image from to) left
    | inr within ↦ elim (same_or_not file 0) [
      | inl zero_ ↦ subst IsTrue ((is.others file (inl zero_)).images beat image from to) left
      | inr some ↦ is.images file (omega (arith, some)) within beat image told from to left
    ]
  ];
  link = is.rest.link;
}

told_on : (a b : SiteView) → IsQuiet a b → IsTrue a.disk.told → IsTrue b.disk.told
told_on a b is told = subst IsTrue (sym is.on.told) told

quiet_open : (given : Given) (run : ℕ) (a b : SiteView) (v : EngineView) (filters : List ActuatorView) → IsTrue a.disk.told → AreOpen given run a b v filters → IsQuiet a b
quiet_open given run a b v filters told is =
    let one = quiet_file 0 a is.middle told is.journal.opens in
    quiet_then a is.middle b one (quiet_filters 16 is.middle b filters (told_on a is.middle one told) is.others)

quiet_refused : (error : WorldError) (given : Given) (run : ℕ) (a b : SiteView) → IsTrue a.disk.told → RefusesOpening error given run a b → IsQuiet a b
quiet_refused error given run a b told (inl first) = quiet_file 0 a b told first.opens
quiet_refused error given run a b told (inr second) =
    let refuses = second.refuses in
    let one = quiet_file 0 a second.middle told second.journal.opens in
    let told_one = told_on a second.middle one told in
    let two = quiet_filters refuses.agent second.middle refuses.middle refuses.filters told_one refuses.before in
    let told_two = told_on second.middle refuses.middle two told_one in
    quiet_then a second.middle b one (quiet_then second.middle refuses.middle b two (quiet_file (refuses.agent + 1) refuses.middle b told_two refuses.refuses.opens))

agreed : (a b : SiteView) (run : ℕ) → IsSound a → IsStart a run → IsQuiet a b → AgreedSince plain a b
agreed a b run sound start quiet =
    since_quiet plain a a b (since_start plain a start.told start.start) sound quiet.on quiet.stays (ap (λ (l : LinkView). l.puts) quiet.link) (ap (λ (l : LinkView). l.said) quiet.link)

some_same : {T : Type 0} (a b : Option T) → b ≡ a → IsSome a → IsSome b
some_same a b e is = subst IsSome (sym e) is

-- where the opening refused
pub refused_agrees : (error : WorldError) (given : Given) (run : ℕ) (a b : SiteView) → IsSound a → RefusesOpening error given run a b → IsStart a run → KeepsAgreement a b
refused_agrees error given run a b sound refuses start = agreed a b run sound start (quiet_refused error given run a b start.told refuses)

-- and whatever happened once all files were open
pub went_agrees : (given : Given) (run : ℕ) (a : SiteView) (from to : World) → IsSound a → AreOpen given run a from.site from.engine from.filters → from.engine.history.seen.run ≡ run → from.phase ≡ opened
    → Steps from to → IsStart a run → KeepsAgreement a to.site
went_agrees given run a from to sound files of_run phase steps start = (steps_keep_agreement a from to (subst (λ (n : ℕ). IsFresh a n a.disk.beat) (sym of_run) start.fresh) kept steps).agreed
  where
    quiet : IsQuiet a from.site
    quiet = quiet_open given run a from.site from.engine from.filters start.told files

    empty : (beat : ℕ) (parcel : Parcel) → from.phase ≡ holds beat parcel → ⊥
    empty beat parcel h = let e : opened ≡ holds beat parcel = sym phase ∙ h in cc

    kept : HasKept a from
    kept = record {
      agreed = agreed a from.site run sound start quiet;
      puts = some_same a.link.puts from.site.link.puts (ap (λ (l : LinkView). l.puts) quiet.link) start.puts;
      pending = some_same a.link.pending from.site.link.pending (ap (λ (l : LinkView). l.pending) quiet.link) start.pending;
      in_hand = λ beat parcel h. absurd (empty beat parcel h);
    }
