-- A session that closed, and what `run` did: each command that was taken has its act, where the parcels taken are told.
use Rattle.std.proofs.Common.{◌≡◌, ◌⊎◌, inl, inr, refl, sym, subst, ℕ, Bool, List, [], append-nil, Option, Some, None}
use Rattle.std.specs.Prelude.{IsSome, IsTrue}
use Rattle.std.proofs.lemmas.List.Elements.{All-nil, All-weaker}
use Rattle.cacao_site.specs.LinkCalls.{GainsAll}
use Rattle.cacao_site.specs.View.{SiteView}
use Rattle.cacao_site.specs.declared.parcel.Parcel.{Parcel}
use Rattle.flow_laws.specs.Images.{IsActs}
use Rattle.flow_world_steps.specs.Handled.{IsCommand}
use Rattle.flow_world.specs.WorldError.{WorldError}
use Rattle.flow_world.specs.WorldError.TheVariants as error
use Rattle.cacao_cli_ends.specs.Ends.{End, status_of}
use Rattle.cacao_cli_ends.specs.Comes.{IsOneOf}
use Rattle.cacao_cli_session.specs.Holding.{CameTo, ClosesSo, RefusesSo, error_end}
use Rattle.cacao_cli_session_laws.specs.Returning.{ActsOnAll, HasActFor}
use Rattle.cacao_cli_ends.specs.Work.{Start}
use Rattle.cacao_cli_session_laws.proofs.ActedLemmas.{AllSince, all-since, closes-acted}
use Rattle.cacao_cli_session_laws.proofs.FloodLemmas.{taken-told}
use Rattle.cacao_cli_session_laws.proofs.ReturnedRuns.{ReadsImages, reads-before}
use Rattle.cacao_cli_session_laws.proofs.AlikeLemmas.{Alike, alike-behind}
use Rattle.cacao_cli_session_laws.proofs.ReturnTells.{closing}
use Rattle.cacao_cli_ends.proofs.StatusLists.{not-among}

-- ---- files that read alike

pub acts-like : (old a b : SiteView) → Alike a b → ActsOnAll old a → ActsOnAll old b
acts-like old a b same all =
    subst (λ (t : Option (List (ℕ × Parcel))). AllSince (λ e. IsCommand e.1 → HasActFor e.1 b) old.link.taken t) (sym same.taken) (go old.link.taken a.link.taken all)
  where
    there : (e : ℕ × Parcel) → (IsCommand e.1 → HasActFor e.1 a) → IsCommand e.1 → HasActFor e.1 b
    there e has command =
        let h : HasActFor e.1 a = has command in
        record {
          acts = h.acts;
          are = subst (λ (image : List ℕ). IsActs image h.acts) (sym (same.bytes (e.1).agent)) h.are;
          act = h.act;
          has = h.has;
        }

    go : (o n : Option (List (ℕ × Parcel))) → AllSince (λ e. IsCommand e.1 → HasActFor e.1 a) o n → AllSince (λ e. IsCommand e.1 → HasActFor e.1 b) o n
    go None n all = tt
    go (Some xs) None all = tt
    go (Some xs) (Some ys) all = λ since e. All-weaker (λ e. IsCommand e.1 → HasActFor e.1 a) (λ e. IsCommand e.1 → HasActFor e.1 b) there since (all since e)

-- ---- ends and their statuses

pub error-open : (why : WorldError) → IsOneOf (status_of (error_end why)) closing → ⊥
error-open error.Disk h = not-among 8 closing refl h
error-open (error.Damaged file place) h = not-among 13 closing refl h
error-open (error.OtherRun held asked) h = not-among 12 closing refl h
error-open (error.OtherBook index) h = not-among 12 closing refl h
error-open (error.RunUsed agent) h = not-among 12 closing refl h
error-open (error.Limit what) h = not-among 11 closing refl h
error-open error.Say h = not-among 9 closing refl h
error-open error.Memory h = not-among 10 closing refl h

-- ---- sessions that closed

module _ (start : Start) (old new : SiteView) (images : ReadsImages new) (told : IsTrue new.disk.told) (last : End) (c : CameTo start last old new) where
  alike : Alike c.between new
  alike = alike-behind c.between new c.behind

  there : ReadsImages c.between
  there = reads-before c.between new c.behind images

  told-there : IsTrue c.between.disk.told
  told-there = subst (λ (b : Bool). IsTrue b) alike.told told

  closes-of : IsOneOf (status_of last) closing → ClosesSo c.session.given start.run start.most c.session.answers old c.between last
  closes-of one = go c.session.holds.held
    where
      go : ClosesSo c.session.given start.run start.most c.session.answers old c.between last ⊎ RefusesSo c.session.given start.run start.most c.session.answers old c.between last
          → ClosesSo c.session.given start.run start.most c.session.answers old c.between last
      go (inl closes) = closes
      go (inr refuses) = absurd (error-open refuses.error (subst (λ (e : End). IsOneOf (status_of e) closing) refuses.ends one))

  -- each command that was taken has its act
  pub came-acted : IsOneOf (status_of last) closing → ActsOnAll old new
  came-acted one =
      let closes : ClosesSo c.session.given start.run start.most c.session.answers old c.between last = closes-of one in
      acts-like old c.between new alike
      (closes-acted c.session.given start.run start.most c.session.answers old c.between there told-there closes.closed.went closes.close closes.closed.closes)

  -- the parcels are told where they were before
  pub came-told : IsOneOf (status_of last) closing → IsSome old.link.taken → IsSome new.link.taken
  came-told one some =
      let closes : ClosesSo c.session.given start.run start.most c.session.answers old c.between last = closes-of one in
      subst (λ (t : Option (List (ℕ × Parcel))). IsSome t) (sym alike.taken)
      (taken-told c.session.given start.run start.most c.session.answers old c.between there told-there closes.closed.went some)

-- ---- `run`

pub nothing-taken : (old mid : SiteView) → mid ≡ old → ActsOnAll old mid
nothing-taken old mid same = all-since (λ e. IsCommand e.1 → HasActFor e.1 mid) old.link.taken mid.link.taken []
    (subst (λ (s : SiteView). GainsAll old.link.taken [] s.link.taken) (sym same) (none old.link.taken)) (All-nil (λ e. IsCommand e.1 → HasActFor e.1 mid))
  where
    none : (o : Option (List (ℕ × Parcel))) → GainsAll o [] o
    none None = tt
    none (Some xs) = sym (append-nil xs)
