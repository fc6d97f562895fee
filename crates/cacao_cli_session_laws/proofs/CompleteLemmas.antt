-- What comes of a start where all agrees.
use Rattle.std.proofs.Common.{◌≡◌, inl, inr, refl, ap, subst, arith, ℕ, true, false, List, [], ◌∷◌, Err}
use Rattle.cacao_site.specs.Counts.{DidNotRise, Rose}
use Rattle.cacao_site.specs.View.{SiteView}
use Rattle.flow_world.specs.Close.{Close}
use Rattle.flow_world.specs.Close.TheVariants as close
use Rattle.flow_world.specs.WorldError.{WorldError}
use Rattle.flow_world.specs.WorldError.TheVariants as error
use Rattle.flow_world_laws.specs.Complete.{EndsSo, IsUndisturbed, StopsSo, TellsOfAnother}
use Rattle.cacao_cli_ends.specs.Ends.{End, status_of, no_memory, shelf_failed}
use Rattle.cacao_cli_ends.specs.Comes.{IsOneOf}
use Rattle.cacao_cli_ends.specs.Files.{File}
use Rattle.cacao_cli_session.specs.Holding.{close_end, error_end}
use Rattle.cacao_cli_ends.specs.Lines.{SaysAtMostALine, SaysWork}
use Rattle.cacao_cli_ends.proofs.EndLemmas.{no_cons}
use Rattle.cacao_cli_ends.proofs.ReadLemmas.{Fails, Read, by_memory, by_shelf}

-- how far a run comes
abbrev pub end_statuses : List ℕ
end_statuses = 0 ∷ 6 ∷ 7 ∷ 16 ∷ 15 ∷ 11 ∷ 10 ∷ 3 ∷ []

pub close-listed : (how : Close) → EndsSo how → IsOneOf (status_of (close_end how)) end_statuses
close-listed (close.Ended true) h = inl refl
close-listed (close.Ended false) h = inr (inl refl)
close-listed close.Paused h = inr (inr (inl refl))
close-listed (close.Waiting moment) h = absurd h
close-listed close.Flooded h = inr (inr (inr (inr (inl refl))))
close-listed (close.Asked issue) h = inr (inr (inr (inl refl)))

pub refusal-listed : (why : WorldError) → StopsSo why → IsOneOf (status_of (error_end why)) end_statuses
refusal-listed error.Disk h = absurd h
refusal-listed (error.Damaged file place) h = absurd h
refusal-listed (error.OtherRun held asked) h = absurd h
refusal-listed (error.OtherBook index) h = absurd h
refusal-listed (error.RunUsed agent) h = absurd h
refusal-listed (error.Limit what) h = inr (inr (inr (inr (inr (inl refl)))))
refusal-listed error.Say h = absurd h
refusal-listed error.Memory h = inr (inr (inr (inr (inr (inr (inl refl))))))

-- an error of another status than 12
pub refusal-other : (why : WorldError) → (TellsOfAnother why → ⊥) → status_of (error_end why) ≡ 12 → ⊥
refusal-other error.Disk h e = omega (arith, e)
refusal-other (error.Damaged file place) h e = omega (arith, e)
refusal-other (error.OtherRun held asked) h e = h tt
refusal-other (error.OtherBook index) h e = h tt
refusal-other (error.RunUsed agent) h e = h tt
refusal-other (error.Limit what) h e = omega (arith, e)
refusal-other error.Say h e = omega (arith, e)
refusal-other error.Memory h e = omega (arith, e)

pub close-other : (how : Close) → status_of (close_end how) ≡ 12 → ⊥
close-other (close.Ended true) e = omega (arith, e)
close-other (close.Ended false) e = omega (arith, e)
close-other close.Paused e = omega (arith, e)
close-other (close.Waiting moment) e = omega (arith, e)
close-other close.Flooded e = omega (arith, e)
close-other (close.Asked issue) e = omega (arith, e)

-- an error of another status than 0 and 6
pub refusal-not : (why : WorldError) → (status_of (error_end why) ≡ 0 → ⊥) × (status_of (error_end why) ≡ 6 → ⊥)
refusal-not error.Disk = (λ e. omega (arith, e), λ e. omega (arith, e))
refusal-not (error.Damaged file place) = (λ e. omega (arith, e), λ e. omega (arith, e))
refusal-not (error.OtherRun held asked) = (λ e. omega (arith, e), λ e. omega (arith, e))
refusal-not (error.OtherBook index) = (λ e. omega (arith, e), λ e. omega (arith, e))
refusal-not (error.RunUsed agent) = (λ e. omega (arith, e), λ e. omega (arith, e))
refusal-not (error.Limit what) = (λ e. omega (arith, e), λ e. omega (arith, e))
refusal-not error.Say = (λ e. omega (arith, e), λ e. omega (arith, e))
refusal-not error.Memory = (λ e. omega (arith, e), λ e. omega (arith, e))

-- the counts did not rise before the last line
pub undisturbed-before : (old mid new : SiteView) → SaysAtMostALine mid new → new.counts.unsaid ≡ mid.counts.unsaid → IsUndisturbed old new → IsUndisturbed old mid
undisturbed-before old mid new behind said u = record {
  faults = subst (λ (n : ℕ). DidNotRise old.disk.faults n) faults u.faults;
  unsaid = subst (λ (n : ℕ). DidNotRise old.counts.unsaid n) said u.unsaid;
  shorts = subst (λ (n : ℕ). DidNotRise old.clock.shorts n) shorts u.shorts;
}
  where
    faults : new.disk.faults ≡ mid.disk.faults
    faults = go behind
      where
        go : SaysAtMostALine mid new → new.disk.faults ≡ mid.disk.faults
        go (inl is) = ap (λ (s : SiteView). s.disk.faults) is
        go (inr says) = says.disk.faults

    shorts : new.clock.shorts ≡ mid.clock.shorts
    shorts = go behind
      where
        go : SaysAtMostALine mid new → new.clock.shorts ≡ mid.clock.shorts
        go (inl is) = ap (λ (s : SiteView). s.clock.shorts) is
        go (inr says) = says.time.shorts

-- where no line was unsaid, none is told so
pub not-unsaid : (before after : ℕ) → Rose before after → DidNotRise before after → ⊥
not-unsaid before after rose same = omega (arith, rose, same.0, same.1)

-- where files were not read nothing was done
pub says-none : (end : End) (old mid : SiteView) (last : End) → SaysWork [] end old mid last → mid ≡ old
says-none end old mid last (inl h) = h.says
says-none end old mid last (inr (inl h)) = absurd (no_cons h.front h.behind h.line h.line h.is)
says-none end old mid last (inr (inr h)) = h.same

pub fails-end : (list : List File) (read : Read) → Fails list read → (end : End) × (read ≡ Err end)
fails-end list read (by_shelf name is faults) = (shelf_failed name, is)
fails-end list read (by_memory is faults) = (no_memory, is)
