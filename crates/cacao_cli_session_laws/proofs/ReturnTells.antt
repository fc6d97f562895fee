-- What a status tells of the files, and the files of the status, where it comes whatever they hold.
use Rattle.std.proofs.Common.{◌≡◌, ◌⊎◌, inl, inr, ◌∙◌, refl, sym, subst, arith, ℕ, List, [], ◌∷◌, false}
use Rattle.std.specs.Prelude.{nat_eq}
use Rattle.std.specs.List.{list_any}
use Rattle.cacao_check.specs.Fits.{FitsKind}
use Rattle.cacao_site.specs.DiskCalls.{IsDurable}
use Rattle.cacao_site.specs.View.{SiteView}
use Rattle.flow_core.specs.Setups.{AreAccepted}
use Rattle.flow_core_rules.specs.Accepted.{Accepted}
use Rattle.flow_core_rules.specs.Givens.{Given}
use Rattle.flow_laws.specs.Images.{IsRecords}
use Rattle.cacao_cli_ends.specs.Comes.{IsOneOf, file_faults}
use Rattle.cacao_cli_ends.specs.Files.{File}
use Rattle.cacao_cli_session_laws.specs.Returning.{LeavesRecords, ReadsTooLarge, ReturnsSo, StatusTells, TurnTells, WouldPassSo, or_any}
use Rattle.cacao_cli_ends.specs.Work.{Start}
use Rattle.cacao_cli_ends.proofs.StatusLists.{not-among, widen}
use Rattle.cacao_cli_ends.proofs.LineLemmas.{IsCutOff}

-- ---- statuses in lists

-- what comes whatever the file holds
abbrev pub faults : List ℕ
faults = or_any []

pub among-faults : (n : ℕ) (ms : List ℕ) → IsOneOf n faults → IsOneOf n (or_any ms)
among-faults n ms (inl e) = inl e
among-faults n ms (inr (inl e)) = inr (inl e)
among-faults n ms (inr (inr (inl e))) = inr (inr (inl e))
among-faults n ms (inr (inr (inr (inl e)))) = inr (inr (inr (inl e)))
among-faults n ms (inr (inr (inr (inr (inl e))))) = inr (inr (inr (inr (inl e))))
among-faults n ms (inr (inr (inr (inr (inr h))))) = absurd h

pub behind-faults : (n : ℕ) (ms : List ℕ) → IsOneOf n ms → IsOneOf n (or_any ms)
behind-faults n ms h = inr (inr (inr (inr (inr h))))

-- what the session alone finds besides
abbrev pub besides : List ℕ
besides = 11 ∷ 13 ∷ 14 ∷ []

-- ---- statuses that tell nothing

abbrev pub telling : List ℕ
telling = 0 ∷ 6 ∷ 7 ∷ 12 ∷ 13 ∷ 14 ∷ 15 ∷ 16 ∷ 11 ∷ []

-- those of a session that closed
abbrev pub closing : List ℕ
closing = 0 ∷ 6 ∷ 7 ∷ 14 ∷ 15 ∷ 16 ∷ []

closing-telling : (n : ℕ) → IsOneOf n closing → IsOneOf n telling
closing-telling n (inl e) = inl e
closing-telling n (inr (inl e)) = inr (inl e)
closing-telling n (inr (inr (inl e))) = inr (inr (inl e))
closing-telling n (inr (inr (inr (inl e)))) = inr (inr (inr (inr (inr (inl e)))))
closing-telling n (inr (inr (inr (inr (inl e))))) = inr (inr (inr (inr (inr (inr (inl e))))))
closing-telling n (inr (inr (inr (inr (inr (inl e)))))) = inr (inr (inr (inr (inr (inr (inr (inl e)))))))
closing-telling n (inr (inr (inr (inr (inr (inr h)))))) = absurd h

pub not-closing : (answer m : ℕ) → list_any (nat_eq m) closing ≡ false → answer ≡ m → IsOneOf answer closing → ⊥
not-closing answer m none is one = not-among m closing none (subst (λ (n : ℕ). IsOneOf n closing) is one)

-- and of those the ones that waited for no moment
abbrev pub reaching : List ℕ
reaching = 0 ∷ 6 ∷ 7 ∷ 15 ∷ 16 ∷ []

reaching-closing : (n : ℕ) → IsOneOf n reaching → IsOneOf n closing
reaching-closing n h = widen n reaching closing refl h

pub not-reaching : (answer m : ℕ) → list_any (nat_eq m) reaching ≡ false → answer ≡ m → IsOneOf answer reaching → ⊥
not-reaching answer m none is one = not-among m reaching none (subst (λ (n : ℕ). IsOneOf n reaching) is one)

-- what leaves the engine's file as it reads where a session refused
abbrev pub leaving : List ℕ
leaving = 11 ∷ 12 ∷ 13 ∷ []

pub not-leaving : (answer m : ℕ) → list_any (nat_eq m) leaving ≡ false → answer ≡ m → IsOneOf answer leaving → ⊥
not-leaving answer m none is one = not-among m leaving none (subst (λ (n : ℕ). IsOneOf n leaving) is one)

-- a crash leaves what the file reads as
pub durable-leaves : (site : SiteView) → IsDurable 0 site.disk → LeavesRecords site
durable-leaves site durable told image left records are = subst (λ (i : List ℕ). IsRecords i records) (sym (durable image left)) are

pub tells-nothing : (start : Start) (old new : SiteView) (answer m : ℕ) → list_any (nat_eq m) telling ≡ false → answer ≡ m → StatusTells start old new answer
tells-nothing start old new answer m none is = record {
  well = λ e. absurd (other (inl (sym is ∙ e)));
  failed = λ e. absurd (other (inr (inl (sym is ∙ e))));
  pauses = λ e. absurd (other (inr (inr (inl (sym is ∙ e)))));
  another = λ e. absurd (other (inr (inr (inr (inl (sym is ∙ e))))));
  damaged = λ e. absurd (other (inr (inr (inr (inr (inl (sym is ∙ e)))))));
  waits = λ e. absurd (other (inr (inr (inr (inr (inr (inl (sym is ∙ e))))))));
  floods = λ e. absurd (other (inr (inr (inr (inr (inr (inr (inl (sym is ∙ e)))))))));
  asks = λ e. absurd (other (inr (inr (inr (inr (inr (inr (inr (inl (sym is ∙ e))))))))));
  past = λ e. absurd (other (inr (inr (inr (inr (inr (inr (inr (inr (inl (sym is ∙ e)))))))))));
  kept = λ one. absurd (other (closing-telling m (subst (λ (n : ℕ). IsOneOf n closing) is one)));
  reached = λ one. absurd (other (closing-telling m (subst (λ (n : ℕ). IsOneOf n closing) is (reaching-closing answer one))));
  left = λ one. absurd (other (widen m leaving telling refl (subst (λ (n : ℕ). IsOneOf n leaving) is one)));
}
  where
    other : IsOneOf m telling → ⊥
    other h = not-among m telling none h

-- 11 tells that something would pass a limit
pub tells-past : (start : Start) (old new : SiteView) (answer : ℕ) → answer ≡ 11 → LeavesRecords new → ReadsTooLarge start new ⊎ WouldPassSo start old new → StatusTells start old new answer
tells-past start old new answer is leaves past = record {
  well = λ e. absurd (omega (arith, e, is));
  failed = λ e. absurd (omega (arith, e, is));
  pauses = λ e. absurd (omega (arith, e, is));
  floods = λ e. absurd (omega (arith, e, is));
  asks = λ e. absurd (omega (arith, e, is));
  waits = λ e. absurd (omega (arith, e, is));
  another = λ e. absurd (omega (arith, e, is));
  damaged = λ e. absurd (omega (arith, e, is));
  past = λ e. past;
  kept = λ one. absurd (not-closing answer 11 refl is one);
  reached = λ one. absurd (not-reaching answer 11 refl is one);
  left = λ one. leaves;
}

pub fault-tells : (start : Start) (old new : SiteView) (answer : ℕ) → IsOneOf answer faults → StatusTells start old new answer
fault-tells start old new answer (inl e) = tells-nothing start old new answer 3 refl e
fault-tells start old new answer (inr (inl e)) = tells-nothing start old new answer 5 refl e
fault-tells start old new answer (inr (inr (inl e))) = tells-nothing start old new answer 8 refl e
fault-tells start old new answer (inr (inr (inr (inl e)))) = tells-nothing start old new answer 9 refl e
fault-tells start old new answer (inr (inr (inr (inr (inl e))))) = tells-nothing start old new answer 10 refl e
fault-tells start old new answer (inr (inr (inr (inr (inr h))))) = absurd h

fault-turns : (start : Start) (old new : SiteView) (answer : ℕ) → IsOneOf answer faults → TurnTells start old new answer
fault-turns start old new answer h = record {
  may = λ m. inr (inr (among-faults answer (11 ∷ 13 ∷ 14 ∷ []) h));
  asks = λ a le. inl (inr (inr (among-faults answer (13 ∷ []) h)));
  moves = λ m some. inr (inr (among-faults answer (13 ∷ []) h));
  late = λ a lt. inr (among-faults answer (12 ∷ 13 ∷ []) h);
  floods = λ f some. inl (inr h);
}

pub fault-returns : (start : Start) (old new : SiteView) (answer : ℕ) → IsOneOf answer faults → ReturnsSo start old new answer
fault-returns start old new answer h = record {
  of_status = fault-tells start old new answer h;
  of_file = record {
    well = λ r. inr (among-faults answer besides h);
    failed = λ r. inr (among-faults answer besides h);
    goes_on = λ r. inr (inr (inr (inr (among-faults answer besides h))));
    pauses = λ p. inr h;
    another = λ a. inr h;
    damaged = λ d. inr h;
    too_large = λ l. inr h;
    filter_damaged = λ d. inl (inr h);
    used = λ u. inr (among-faults answer (13 ∷ []) h);
  };
  of_turn = fault-turns start old new answer h;
}

pub cut : (start : Start) (old new : SiteView) (answer : ℕ) → IsCutOff answer → ReturnsSo start old new answer
cut start old new answer (inl e) = fault-returns start old new answer (inr (inr (inr (inl e))))
cut start old new answer (inr (inl e)) = fault-returns start old new answer (inr (inr (inr (inr (inl e)))))
cut start old new answer (inr (inr h)) = absurd h

pub faulty : (start : Start) (old new : SiteView) (answer : ℕ) (list : List File) → IsOneOf answer (file_faults list) → ReturnsSo start old new answer
faulty start old new answer [] h = cut start old new answer h
faulty start old new answer (file ∷ more) (inl e) = fault-returns start old new answer (inl e)
faulty start old new answer (file ∷ more) (inr h) = cut start old new answer h

-- texts that are not accepted give no run to read
pub none-accepted : (start : Start) (old new : SiteView) (answer m : ℕ) → list_any (nat_eq m) telling ≡ false → answer ≡ m
    → ((given : Given) → Accepted AreAccepted FitsKind start.books start.bind given → ⊥) → ReturnsSo start old new answer
none-accepted start old new answer m none is refused = record {
  of_status = tells-nothing start old new answer m none is;
  of_file = record {
    well = λ r. absurd (refused r.given r.accepted);
    failed = λ r. absurd (refused r.given r.accepted);
    goes_on = λ r. absurd (refused r.given r.accepted);
    pauses = λ p. absurd (refused p.0.given p.0.accepted);
    another = λ a. absurd (refused a.given a.accepted);
    damaged = λ d. absurd (refused d.given d.accepted);
    too_large = λ l. absurd (refused l.given l.accepted);
    filter_damaged = λ d. absurd (refused d.given d.accepted);
    used = λ u. absurd (refused u.given u.accepted);
  };
  of_turn = record {
    may = λ m. absurd (refused m.goes_on.given m.goes_on.accepted);
    asks = λ a le. absurd (refused a.may.goes_on.given a.may.goes_on.accepted);
    moves = λ m some. absurd (refused m.goes_on.given m.goes_on.accepted);
    late = λ a lt. absurd (refused a.1.0 a.1.1);
    floods = λ f some. absurd (refused f.may.goes_on.given f.may.goes_on.accepted);
  };
}
