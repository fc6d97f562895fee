-- What the openings of files leave as it was: each image, and the counts of faults.
use Rattle.std.proofs.Common.{inl, inr, ℕ, zero, suc, ◌+◌, List, refl, sym, subst, IsTrue, arith}
use Rattle.std.proofs.lemmas.Bool.{cases_lt}
use Rattle.cacao_site.specs.DiskCalls.{GoesOn, IsLeft}
use Rattle.cacao_site.specs.View.{SiteView}
use Rattle.cacao_site.proofs.Beats.{goes_on-trans, told-goes_on}
use Rattle.flow_world_steps.specs.EngineView.{EngineView}
use Rattle.flow_laws.specs.Beats.{Among}
use Rattle.flow_laws.proofs.Basics.{same_or_not}
use Rattle.flow_core_rules.specs.Givens.{Given}
use Rattle.slpf_actuator.specs.ActuatorView.{ActuatorView}
use Rattle.flow_world.specs.Openings.{AreOpen, OpensFile, OpensFilters, RefusesOpening}
use Rattle.flow_world.specs.WorldError.{WorldError}

-- the images of each file at the last beat of the new site were images of it at that of the old one, and the disk went on
pub record OnlyOpens (old new : SiteView) : Type 0 where
  pub on : GoesOn old.disk new.disk
  pub among : IsTrue old.disk.told → (file : ℕ) → Among file old old.disk.beat new new.disk.beat

only-trans : (a b c : SiteView) → OnlyOpens a b → OnlyOpens b c → OnlyOpens a c
only-trans a b c p q = record {
  on = goes_on-trans p.on q.on;
  among = λ told file image left. p.among told file image (q.among (told-goes_on p.on told) file image left);
}

opens_file : (file : ℕ) (old new : SiteView) → OpensFile file old new → OnlyOpens old new
opens_file file old new opens =
    let on = opens.only.each.goes_on in
    record {
      on = on;
      among = λ told other image left. elim (same_or_not other file) [
        | inl e ↦ subst (λ (n : ℕ). IsLeft old.disk n old.disk.beat image) (sym e)
            (opens.only.each.each told new.disk.beat image on.later (omega arith) (subst (λ (n : ℕ). IsLeft new.disk n new.disk.beat image) e left))
        | inr ne ↦ subst IsTrue ((opens.only.others other ne).images new.disk.beat image on.later (omega arith)) left
      ];
    }

filters_among : (n : ℕ) (old new : SiteView) (filters : List ActuatorView) → OpensFilters n old new filters → IsTrue old.disk.told → (file : ℕ) → Among file old old.disk.beat new new.disk.beat
filters_among n old new filters opens told zero image left = subst IsTrue ((opens.others 0 (inl refl)).images new.disk.beat image opens.goes_on.later (omega arith)) left
filters_among n old new filters opens told (suc k) image left = elim (cases_lt n (suc k)) [
  | inl late ↦ subst IsTrue ((opens.others (suc k) (inr late)).images new.disk.beat image opens.goes_on.later (omega arith)) left
  | inr early ↦ opens.images (suc k) (omega arith) early new.disk.beat image told opens.goes_on.later (omega arith) left
]

opens_filters : (n : ℕ) (old new : SiteView) (filters : List ActuatorView) → OpensFilters n old new filters → OnlyOpens old new
opens_filters n old new filters opens = record { on = opens.goes_on; among = filters_among n old new filters opens }

pub opens_all : (given : Given) (run : ℕ) (old new : SiteView) (v : EngineView) (filters : List ActuatorView) → AreOpen given run old new v filters → OnlyOpens old new
opens_all given run old new v filters are =
    only-trans old are.middle new (opens_file 0 old are.middle are.journal.opens) (opens_filters 16 are.middle new filters are.others)

pub opens_refused : (error : WorldError) (given : Given) (run : ℕ) (old new : SiteView) → RefusesOpening error given run old new → OnlyOpens old new
opens_refused error given run old new (inl r) = opens_file 0 old new r.opens
opens_refused error given run old new (inr r) =
    let f = r.refuses in
    only-trans old r.middle new (opens_file 0 old r.middle r.journal.opens)
    (only-trans r.middle f.middle new (opens_filters f.agent r.middle f.middle f.filters f.before) (opens_file (f.agent + 1) f.middle new f.refuses.opens))
