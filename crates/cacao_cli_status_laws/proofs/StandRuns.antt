-- The statuses of `run` that its session settles, and what may stand in their place.
use Rattle.std.proofs.Common.{◌≡◌, ◌⊎◌, ◌∙◌, inl, inr, refl, sym, ap, subst, arith, ℕ, ◌<◌, ◌≤◌, Bool, true, false, List, [], ◌∷◌, ◌++◌, Some}
use Rattle.std.specs.Prelude.{IsTrue, is_some, nat_eq, nat_lt, if◌then◌else◌}
use Rattle.std.specs.List.{list_any}
use Rattle.std.proofs.lemmas.Bool.{true≢false}
use Rattle.cacao_site.specs.Counts.{Rose, last_count}
use Rattle.cacao_site.specs.View.{DiskView, SiteView}
use Rattle.flow_world.specs.Close.{Close}
use Rattle.flow_world.specs.Close.TheVariants as close
use Rattle.flow_world.specs.WorldError.{WorldError}
use Rattle.flow_world.specs.WorldError.TheVariants as error
use Rattle.cacao_cli_ends.specs.Asked.{runs}
use Rattle.cacao_cli_ends.specs.Ends.{End, damaged, ended_ok, no_such_file, not_readable, past, status_of}
use Rattle.cacao_cli_ends.specs.Files.{Files, NamedText, files_of, has_too_many, reading}
use Rattle.cacao_cli_ends.specs.Work.{Start, Work, ends, start_of, starts, trees_wanted, work}
use Rattle.cacao_cli_status_laws.specs.Exact.{HasStatus, IsSettled}
use Rattle.cacao_cli_ends.specs.Comes.{IsOneOf, statuses_beside, reached_statuses, disk_failed_if_full}
use Rattle.cacao_cli_status_laws.specs.Causes.{FindsItDamaged, IsPastLimit, SessionTo}
use Rattle.cacao_cli_ends.specs.FileCauses.{HasTexts, IsMissing, IsTooLong}
use Rattle.cacao_cli_session_laws.specs.Holding.{CameTo, ClosesSo, RefusesSo, close_end, error_end}
use Rattle.cacao_cli_ends.specs.Lines.{SaysAtMostALine}
use Rattle.cacao_cli_ends.specs.declared.limit.Limit.{Limit}
use Rattle.cacao_cli_ends.specs.declared.limit.Limit.TheVariants.{BookCount}
use Rattle.cacao_cli_words.specs.Requests.{RunRequest}
use Rattle.cacao_cli_status_laws.proofs.CauseLemmas.{missing-long}
use Rattle.cacao_cli_ends.proofs.EndCases.{eight-is, session-end, session_only}
use Rattle.cacao_cli_session_laws.proofs.HoldLemmas.{holds-failed}
use Rattle.cacao_cli_status_laws.proofs.JudgedLemmas.{accepted-settled, lacks-tree, roots-lack, settled-listed, start-settled}
use Rattle.cacao_cli_session_laws.proofs.JudgedLemmas.{came-done}
use Rattle.cacao_cli_session_laws.proofs.ReachedLemmas.{closed-come}
use Rattle.cacao_cli_session_laws.proofs.ReturnedRuns.{ReadsImages}
use Rattle.cacao_cli_status_laws.proofs.ShortLemmas.{settled-short}
use Rattle.cacao_cli_session_laws.proofs.StandLemmas.{settled, stands-11, stands-15, stands-16, stands-beside}
use Rattle.cacao_cli_status_laws.proofs.StatusKinds.{SessionEnds, SessionStatuses, ToldStatuses, settling}
use Rattle.cacao_cli_ends.proofs.StatusLists.{are_among, not-among, session_statuses, widen}
use Rattle.cacao_cli_status_laws.proofs.SteadyLemmas.{held-steady}
use Rattle.cacao_cli_status_laws.proofs.StatusRuns.{RunCase, RunList, long-texts, missing-texts, no-session-of-many, no-texts, run_case, run_long, run_many, run_missing, run_starts, run_treeless, same-texts, session-texts}

-- ---- the clock, and faults of the disk

not-reached : (why : WorldError) → IsOneOf (status_of (error_end why)) reached_statuses → ⊥
not-reached error.Disk h = not-among 8 reached_statuses refl h
not-reached (error.Damaged file place) h = not-among 13 reached_statuses refl h
not-reached (error.OtherRun held asked) h = not-among 12 reached_statuses refl h
not-reached (error.OtherBook index) h = not-among 12 reached_statuses refl h
not-reached (error.RunUsed agent) h = not-among 12 reached_statuses refl h
not-reached (error.Limit what) h = not-among 11 reached_statuses refl h
not-reached error.Say h = not-among 9 reached_statuses refl h
not-reached error.Memory h = not-among 10 reached_statuses refl h

not-waiting : (how : Close) → IsOneOf (status_of (close_end how)) reached_statuses → (moment : ℕ) → how ≡ close.Waiting moment → ⊥
not-waiting how h moment e = not-among 14 reached_statuses refl (subst (λ (c : Close). IsOneOf (status_of (close_end c)) reached_statuses) e h)

-- a session that came to one of these came to the moment that it asked for last
pub came-reached : (start : Start) (last : End) (old new : SiteView) → CameTo start last old new → IsOneOf (status_of last) reached_statuses → new.clock.asked ≤ new.clock.now
came-reached start last old new c h = behind c.behind (held c.session.holds.held)
  where
    held : ClosesSo c.session.given start.run start.most c.session.answers old c.between last ⊎ RefusesSo c.session.given start.run start.most c.session.answers old c.between last
        → c.between.clock.asked ≤ c.between.clock.now
    held (inl closes) = closed-come closes.close c.session.given start.run start.most c.session.answers old c.between closes.closed
        (not-waiting closes.close (subst (λ (e : End). IsOneOf (status_of e) reached_statuses) closes.ends h))
    held (inr refuses) = absurd (not-reached refuses.error (subst (λ (e : End). IsOneOf (status_of e) reached_statuses) refuses.ends h))

    behind : SaysAtMostALine c.between new → c.between.clock.asked ≤ c.between.clock.now → new.clock.asked ≤ new.clock.now
    behind (inl is) le = subst (λ (s : SiteView). s.clock.asked ≤ s.clock.now) (sym is) le
    behind (inr says) le = let asked = says.time.asked in let now = says.time.now in omega (arith, asked, now, le)

line-faults : (mid new : SiteView) → SaysAtMostALine mid new → new.disk.faults ≡ mid.disk.faults
line-faults mid new (inl is) = ap (λ (s : SiteView). s.disk.faults) is
line-faults mid new (inr says) = says.disk.faults

-- one that came to another end than a failed disk counted no fault; so the count can't rise where another came to that
faults-full : (start : Start) (first : End) (old new : SiteView) → CameTo start first old new → (status_of first ≡ 8 → ⊥) → (n : ℕ) → IsSettled start old new n → n ≡ 8
    → nat_lt new.disk.faults last_count ≡ false
faults-full start first old new c other n is e = by (nat_lt new.disk.faults last_count) refl
  where
    same : new.disk.faults ≡ old.disk.faults
    same = line-faults c.between new c.behind ∙ held-steady c.session.given start.run start.most c.session.answers old c.between first c.session.holds.held other

    rose : Rose old.disk.faults is.came.between.disk.faults
    rose = holds-failed is.came.session.given start.run start.most is.came.session.answers old is.came.between is.last (eight-is is.last (sym is.is ∙ e)) is.came.session.holds

    later : new.disk.faults ≡ is.came.between.disk.faults
    later = line-faults is.came.between new is.came.behind

    less : (a b : ℕ) → nat_lt a b ≡ true → a < b
    less a b h = grind arith

    by : (b : Bool) → nat_lt new.disk.faults last_count ≡ b → nat_lt new.disk.faults last_count ≡ false
    by true f = let lt = less new.disk.faults last_count f in absurd (omega (arith, same, rose, later, lt))
    by false f = f

-- a failed disk stands where the count is full
place-fault : (n k : ℕ) (disk : DiskView) (ms : List ℕ) → (n ≡ 8 → nat_lt disk.faults last_count ≡ false) → IsOneOf n (k ∷ 3 ∷ 8 ∷ 9 ∷ 10 ∷ ms) → IsOneOf n (k ∷ 3 ∷ 9 ∷ 10 ∷ (disk_failed_if_full disk ++ ms))
place-fault n k disk ms full h = go h
  where
    failed : (b : Bool) → b ≡ false → n ≡ 8 → IsOneOf n ((if b then [] else 8 ∷ []) ++ ms)
    failed true f e = absurd (true≢false f)
    failed false f e = inl e

    rest : (b : Bool) → IsOneOf n ms → IsOneOf n ((if b then [] else 8 ∷ []) ++ ms)
    rest true one = one
    rest false one = inr one

    go : IsOneOf n (k ∷ 3 ∷ 8 ∷ 9 ∷ 10 ∷ ms) → IsOneOf n (k ∷ 3 ∷ 9 ∷ 10 ∷ (disk_failed_if_full disk ++ ms))
    go (inl e) = inl e
    go (inr (inl e)) = inr (inl e)
    go (inr (inr (inl e))) = inr (inr (inr (inr (failed (nat_lt disk.faults last_count) (full e) e))))
    go (inr (inr (inr (inl e)))) = inr (inr (inl e))
    go (inr (inr (inr (inr (inl e))))) = inr (inr (inr (inl e)))
    go (inr (inr (inr (inr (inr one))))) = inr (inr (inr (inr (rest (nat_lt disk.faults last_count) one))))

-- ---- two sessions of one call

module _ (start : Start) (old new : SiteView) (images : ReadsImages new) (some : 1 ≤ start.most) (first : End) (came : CameTo start first old new) (n : ℕ) (is : IsSettled start old new n) where
  -- nothing stands beside what the files and the clock settle
  settles : (t : Bool) (k : ℕ) → statuses_beside true false k ≡ [] → IsOneOf n (k ∷ 3 ∷ 8 ∷ 9 ∷ 10 ∷ []) → IsOneOf n (k ∷ 3 ∷ 8 ∷ 9 ∷ 10 ∷ statuses_beside true t k)
  settles true k none h = h
  settles false k none h = subst (λ (ms : List ℕ). IsOneOf n (k ∷ 3 ∷ 8 ∷ 9 ∷ 10 ∷ ms)) (sym none) h

  told-stands : IsTrue new.disk.told → (t : Bool) → is_some old.link.taken ≡ t → IsOneOf (status_of first) settling → IsOneOf n (status_of first ∷ 3 ∷ 8 ∷ 9 ∷ 10 ∷ statuses_beside true t (status_of first))
  told-stands told t taken one = go one
    where
      at : (k : ℕ) → status_of first ≡ k → IsOneOf n (k ∷ 3 ∷ 8 ∷ 9 ∷ 10 ∷ statuses_beside true t k) → IsOneOf n (status_of first ∷ 3 ∷ 8 ∷ 9 ∷ 10 ∷ statuses_beside true t (status_of first))
      at k e h = subst (λ (m : ℕ). IsOneOf n (m ∷ 3 ∷ 8 ∷ 9 ∷ 10 ∷ statuses_beside true t m)) (sym e) h

      by-files : (k : ℕ) → status_of first ≡ k → IsOneOf k settled → IsOneOf n (k ∷ 3 ∷ 8 ∷ 9 ∷ 10 ∷ [])
      by-files k e s = subst (λ (m : ℕ). IsOneOf m (k ∷ 3 ∷ 8 ∷ 9 ∷ 10 ∷ [])) (sym is.is)
          (subst (λ (m : ℕ). IsOneOf (status_of is.last) (m ∷ 3 ∷ 8 ∷ 9 ∷ 10 ∷ [])) e
          (stands-beside start old new images told some first is.last came is.came (subst (λ (m : ℕ). IsOneOf m settled) (sym e) s)))

      other : (k : ℕ) → IsOneOf (status_of is.last) (k ∷ 3 ∷ 8 ∷ 9 ∷ 10 ∷ statuses_beside true t k) → IsOneOf n (k ∷ 3 ∷ 8 ∷ 9 ∷ 10 ∷ statuses_beside true t k)
      other k h = subst (λ (m : ℕ). IsOneOf m (k ∷ 3 ∷ 8 ∷ 9 ∷ 10 ∷ statuses_beside true t k)) (sym is.is) h

      go : IsOneOf (status_of first) settling → IsOneOf n (status_of first ∷ 3 ∷ 8 ∷ 9 ∷ 10 ∷ statuses_beside true t (status_of first))
      go (inl e) = at 0 e (settles t 0 refl (by-files 0 e (inl refl)))
      go (inr (inl e)) = at 6 e (settles t 6 refl (by-files 6 e (inr (inl refl))))
      go (inr (inr (inl e))) = at 7 e (settles t 7 refl (by-files 7 e (inr (inr (inl refl)))))
      go (inr (inr (inr (inl e)))) = at 12 e (settles t 12 refl (by-files 12 e (inr (inr (inr (inl refl))))))
      go (inr (inr (inr (inr (inl e))))) = at 13 e (settles t 13 refl (by-files 13 e (inr (inr (inr (inr (inl refl)))))))
      go (inr (inr (inr (inr (inr (inl e)))))) = at 14 e (settles t 14 refl (by-files 14 e (inr (inr (inr (inr (inr (inl refl))))))))
      go (inr (inr (inr (inr (inr (inr (inl e))))))) = at 11 e (other 11 (stands-11 start old new images told some first is.last came is.came t taken e))
      go (inr (inr (inr (inr (inr (inr (inr (inl e)))))))) = at 15 e (other 15 (stands-15 start old new images told some first is.last came is.came t taken e))
      go (inr (inr (inr (inr (inr (inr (inr (inr (inl e))))))))) = at 16 e (other 16 (stands-16 start old new images told some first is.last came is.came t taken e))
      go (inr (inr (inr (inr (inr (inr (inr (inr (inr none))))))))) = absurd none

  -- what the clock tells
  untold-stands : (t : Bool) → IsOneOf (status_of first) settling → IsOneOf n (status_of first ∷ 3 ∷ 8 ∷ 9 ∷ 10 ∷ statuses_beside false t (status_of first))
  untold-stands t one = go one
    where
      listed : IsOneOf n session_statuses
      listed = settled-listed start is

      at : (k : ℕ) → status_of first ≡ k → IsOneOf n (k ∷ 3 ∷ 8 ∷ 9 ∷ 10 ∷ statuses_beside false t k) → IsOneOf n (status_of first ∷ 3 ∷ 8 ∷ 9 ∷ 10 ∷ statuses_beside false t (status_of first))
      at k e h = subst (λ (m : ℕ). IsOneOf n (m ∷ 3 ∷ 8 ∷ 9 ∷ 10 ∷ statuses_beside false t m)) (sym e) h

      -- it came to the moment that it was asked for
      reached : (k : ℕ) → status_of first ≡ k → IsOneOf k reached_statuses → IsOneOf n (3 ∷ 8 ∷ 9 ∷ 10 ∷ 11 ∷ 12 ∷ 13 ∷ reached_statuses)
      reached k e one = but-late (widen n session_statuses (14 ∷ 3 ∷ 8 ∷ 9 ∷ 10 ∷ 11 ∷ 12 ∷ 13 ∷ reached_statuses) refl listed)
        where
          but-late : IsOneOf n (14 ∷ 3 ∷ 8 ∷ 9 ∷ 10 ∷ 11 ∷ 12 ∷ 13 ∷ reached_statuses) → IsOneOf n (3 ∷ 8 ∷ 9 ∷ 10 ∷ 11 ∷ 12 ∷ 13 ∷ reached_statuses)
          but-late (inl f) =
              let le = came-reached start first old new came (subst (λ (m : ℕ). IsOneOf m reached_statuses) (sym e) one) in
              let late = settled-short start old new n is f in
              absurd (omega (arith, le, late))
          but-late (inr h) = h

      -- it did not
      short : status_of first ≡ 14 → IsOneOf n (14 ∷ 3 ∷ 8 ∷ 9 ∷ 10 ∷ 11 ∷ 12 ∷ 13 ∷ [])
      short e = but-reached (widen n session_statuses (0 ∷ 6 ∷ 7 ∷ 15 ∷ 16 ∷ 14 ∷ 3 ∷ 8 ∷ 9 ∷ 10 ∷ 11 ∷ 12 ∷ 13 ∷ []) refl listed)
        where
          never : IsOneOf n reached_statuses → IsOneOf n (14 ∷ 3 ∷ 8 ∷ 9 ∷ 10 ∷ 11 ∷ 12 ∷ 13 ∷ [])
          never h =
              let le = came-reached start is.last old new is.came (subst (λ (m : ℕ). IsOneOf m reached_statuses) is.is h) in
              let late = settled-short start old new 14 (record { last = first; came = came; is = sym e }) refl in
              absurd (omega (arith, le, late))

          but-reached : IsOneOf n (0 ∷ 6 ∷ 7 ∷ 15 ∷ 16 ∷ 14 ∷ 3 ∷ 8 ∷ 9 ∷ 10 ∷ 11 ∷ 12 ∷ 13 ∷ []) → IsOneOf n (14 ∷ 3 ∷ 8 ∷ 9 ∷ 10 ∷ 11 ∷ 12 ∷ 13 ∷ [])
          but-reached (inl f) = never (inl f)
          but-reached (inr (inl f)) = never (inr (inl f))
          but-reached (inr (inr (inl f))) = never (inr (inr (inl f)))
          but-reached (inr (inr (inr (inl f)))) = never (inr (inr (inr (inl f))))
          but-reached (inr (inr (inr (inr (inl f))))) = never (inr (inr (inr (inr (inl f)))))
          but-reached (inr (inr (inr (inr (inr h))))) = h

      any : (k : ℕ) → are_among session_statuses (k ∷ 3 ∷ 8 ∷ 9 ∷ 10 ∷ statuses_beside false t k) ≡ true → IsOneOf n (k ∷ 3 ∷ 8 ∷ 9 ∷ 10 ∷ statuses_beside false t k)
      any k all = widen n session_statuses (k ∷ 3 ∷ 8 ∷ 9 ∷ 10 ∷ statuses_beside false t k) all listed

      go : IsOneOf (status_of first) settling → IsOneOf n (status_of first ∷ 3 ∷ 8 ∷ 9 ∷ 10 ∷ statuses_beside false t (status_of first))
      go (inl e) = at 0 e (inr (reached 0 e (inl refl)))
      go (inr (inl e)) = at 6 e (inr (reached 6 e (inr (inl refl))))
      go (inr (inr (inl e))) = at 7 e (inr (reached 7 e (inr (inr (inl refl)))))
      go (inr (inr (inr (inl e)))) = at 12 e (any 12 refl)
      go (inr (inr (inr (inr (inl e))))) = at 13 e (any 13 refl)
      go (inr (inr (inr (inr (inr (inl e)))))) = at 14 e (short e)
      go (inr (inr (inr (inr (inr (inr (inl e))))))) = at 11 e (any 11 refl)
      go (inr (inr (inr (inr (inr (inr (inr (inl e)))))))) = at 15 e (inr (reached 15 e (inr (inr (inr (inl refl))))))
      go (inr (inr (inr (inr (inr (inr (inr (inr (inl e))))))))) = at 16 e (inr (reached 16 e (inr (inr (inr (inr (inl refl)))))))
      go (inr (inr (inr (inr (inr (inr (inr (inr (inr none))))))))) = absurd none

  stands : IsOneOf (status_of first) settling → IsOneOf n (status_of first ∷ 3 ∷ 9 ∷ 10 ∷ (disk_failed_if_full new.disk ++ statuses_beside new.disk.told (is_some old.link.taken) (status_of first)))
  stands one = go new.disk.told refl
    where
      full : n ≡ 8 → nat_lt new.disk.faults last_count ≡ false
      full = faults-full start first old new came (λ e. not-among 8 settling refl (subst (λ (k : ℕ). IsOneOf k settling) e one)) n is

      go : (b : Bool) → new.disk.told ≡ b → IsOneOf n (status_of first ∷ 3 ∷ 9 ∷ 10 ∷ (disk_failed_if_full new.disk ++ statuses_beside b (is_some old.link.taken) (status_of first)))
      go true e = place-fault n (status_of first) new.disk (statuses_beside true (is_some old.link.taken) (status_of first)) full (told-stands e (is_some old.link.taken) refl one)
      go false e = place-fault n (status_of first) new.disk (statuses_beside false (is_some old.link.taken) (status_of first)) full (untold-stands (is_some old.link.taken) one)

-- ---- run

module _ (wanted : RunRequest) (files : Files) (old new : SiteView) (n : ℕ) (images : ReadsImages new) (some : 1 ≤ wanted.most) where
  -- what may stand in the place of the status of a session with these texts
  session-stands : (texts : List NamedText) → HasStatus (starts (start_of wanted texts)) old new n → HasTexts files wanted texts → (last : End) → IsOneOf (status_of last) settling → SessionTo wanted files last old new
      → IsOneOf n (status_of last ∷ 3 ∷ 9 ∷ 10 ∷ (disk_failed_if_full new.disk ++ statuses_beside new.disk.told (is_some old.link.taken) (status_of last)))
  session-stands texts s has last one h =
      let came : CameTo (start_of wanted texts) last old new = subst (λ (l : List NamedText). CameTo (start_of wanted l) last old new) (same-texts files wanted h.texts texts h.has has) h.came in
      stands (start_of wanted texts) old new images some last came n (accepted-settled (start_of wanted texts) (session-texts wanted files old new n texts has last h).0 s) one

  -- no session is held where the files stop the call before
  pub record NoSession : Type 0 where
    none : (last : End) → SessionTo wanted files last old new → ⊥

  pub no-past : NoSession → (has_too_many (runs wanted) ≡ true → ⊥) → (IsTooLong files (files_of (Some (runs wanted))) → ⊥) → IsPastLimit (Some (runs wanted)) files old new → ⊥
  no-past absent many long (inl (inl e)) = many e
  no-past absent many long (inl (inr l)) = long l
  no-past absent many long (inr (limit, h)) = absent.none (past limit) h

  pub stopped-told : NoSession → (m : ℕ) → n ≡ m → (m ≡ 0 → ⊥) → (m ≡ 13 → ⊥) → (n ≡ 11 → IsPastLimit (Some (runs wanted)) files old new) → (IsPastLimit (Some (runs wanted)) files old new → n ≡ 11) → ToldStatuses (Some (runs wanted)) files old new n
  stopped-told absent m is a b past_to to_past = record {
    is_done = λ e. absurd (a (sym is ∙ e));
    done_is = λ h. absurd (absent.none ended_ok h);
    is_past = past_to;
    past_is = λ h. inl (to_past h);
    is_damaged = λ e. absurd (b (sym is ∙ e));
    damaged_is = λ h. absurd (absent.none (damaged h.0 h.1) h.2);
  }

  pub run-told : HasStatus (work (Some (runs wanted)) (reading files (files_of (Some (runs wanted))))) old new n → ToldStatuses (Some (runs wanted)) files old new n
  run-told held = go (run_case wanted files)
    where
      at : (w : Work) → work (Some (runs wanted)) (reading files (files_of (Some (runs wanted)))) ≡ w → HasStatus w old new n
      at w is = subst (λ (w : Work). HasStatus w old new n) is held

      go : RunCase wanted files → ToldStatuses (Some (runs wanted)) files old new n
      go (run_many many is) = let k : n ≡ 11 = at (ends [] (past BookCount)) is in
          stopped-told (record { none = λ last h. no-session-of-many wanted files old new n last many h }) 11 k (λ e. omega (arith, e)) (λ e. omega (arith, e)) (λ e. inl (inl many)) (λ h. k)
      go (run_missing name m is) = let k : n ≡ 4 = at (ends [] (no_such_file name)) is in
          let absent : NoSession = record { none = λ last h. missing-texts wanted files old new n h.texts h.has m } in
          stopped-told absent 4 k (λ e. omega (arith, e)) (λ e. omega (arith, e)) (λ e. absurd (omega (arith, e, k)))
          (λ h. absurd (no-past absent (λ many. subst (λ (b : Bool). IsMissing files (RunList wanted b)) many m) (λ long. missing-long files (files_of (Some (runs wanted))) m long) h))
      go (run_long limit l is) = let k : n ≡ 11 = at (ends [] (past limit)) is in
          stopped-told (record { none = λ last h. long-texts wanted files old new n h.texts h.has l }) 11 k (λ e. omega (arith, e)) (λ e. omega (arith, e)) (λ e. inl (inr l)) (λ h. k)
      go (run_treeless texts name reason has within t is) = let k : n ≡ 5 = at (ends [] (not_readable name reason)) is in
          let absent : NoSession = record { none = λ last h. (session-texts wanted files old new n texts has last h).1 (lacks-tree (trees_wanted wanted texts) t) } in
          stopped-told absent 5 k (λ e. omega (arith, e)) (λ e. omega (arith, e)) (λ e. absurd (omega (arith, e, k)))
          (λ h. absurd (no-past absent (no-texts files wanted texts has) (long-texts wanted files old new n texts has) h))
      go (run_starts texts roots has within r is) = let s : HasStatus (starts (start_of wanted texts)) old new n = at (starts (start_of wanted texts)) is in record {
        is_done = λ e. let t = settled-at s e (λ f. omega (arith, f)) (λ f. omega (arith, f)) in subst (λ (x : End). SessionTo wanted files x old new) (came-done (start_of wanted texts) old new t.last t.came (sym t.is ∙ e)) (session-of t);
        done_is = λ h. session-stands texts s has ended_ok (inl refl) h;
        is_past = λ e. let t = settled-at s e (λ f. omega (arith, f)) (λ f. omega (arith, f)) in by-limit t ((session-end t.last).passes (sym t.is ∙ e));
        past_is = past-of s;
        is_damaged = λ e. let t = settled-at s e (λ f. omega (arith, f)) (λ f. omega (arith, f)) in by-damage t ((session-end t.last).damage (sym t.is ∙ e));
        damaged_is = λ h. session-stands texts s has (damaged h.0 h.1) (inr (inr (inr (inr (inl refl))))) h.2;
      }
        where
          settled-at : {m : ℕ} → HasStatus (starts (start_of wanted texts)) old new n → n ≡ m → (5 ≡ m → ⊥) → (1 ≡ m → ⊥) → IsSettled (start_of wanted texts) old new n
          settled-at s e a b = start-settled (start_of wanted texts) s (λ f. a (sym f ∙ e)) (λ f. b (sym f ∙ e))

          session-of : (t : IsSettled (start_of wanted texts) old new n) → SessionTo wanted files t.last old new
          session-of t = record { texts = texts; has = has; trees = roots-lack (trees_wanted wanted texts) roots r; came = t.came }

          by-limit : (t : IsSettled (start_of wanted texts) old new n) → (limit : Limit) × (t.last ≡ past limit) → IsPastLimit (Some (runs wanted)) files old new
          by-limit t h = inr (h.0, subst (λ (x : End). SessionTo wanted files x old new) h.1 (session-of t))

          by-damage : (t : IsSettled (start_of wanted texts) old new n) → (file : ℕ) × (place : ℕ) × (t.last ≡ damaged file place) → FindsItDamaged (Some (runs wanted)) files old new
          by-damage t h = (h.0, h.1, subst (λ (x : End). SessionTo wanted files x old new) h.2 (session-of t))

          past-of : HasStatus (starts (start_of wanted texts)) old new n → IsPastLimit (Some (runs wanted)) files old new → IsOneOf n (11 ∷ 3 ∷ 9 ∷ 10 ∷ (disk_failed_if_full new.disk ++ statuses_beside new.disk.told (is_some old.link.taken) 11))
          past-of s (inl (inl many)) = absurd (no-texts files wanted texts has many)
          past-of s (inl (inr long)) = absurd (long-texts wanted files old new n texts has long)
          past-of s (inr (limit, h)) = session-stands texts s has (past limit) (inr (inr (inr (inr (inr (inr (inl refl))))))) h

  -- the statuses that sessions alone give
  pub run-session : HasStatus (work (Some (runs wanted)) (reading files (files_of (Some (runs wanted))))) old new n → SessionStatuses (Some (runs wanted)) files old new n
  run-session held = record { ends = by (run_case wanted files); among = settles (run_case wanted files) }
    where
      at : (w : Work) → work (Some (runs wanted)) (reading files (files_of (Some (runs wanted)))) ≡ w → HasStatus w old new n
      at w is = subst (λ (w : Work). HasStatus w old new n) is held

      unlike : (m : ℕ) → n ≡ m → list_any (nat_eq m) session_only ≡ false → IsOneOf n session_only → ⊥
      unlike m e none h = not-among m session_only none (subst (λ (k : ℕ). IsOneOf k session_only) e h)

      by : RunCase wanted files → IsOneOf n session_only → SessionEnds (Some (runs wanted)) files old new n
      by (run_many many is) one = absurd (unlike 11 (at (ends [] (past BookCount)) is) refl one)
      by (run_missing name m is) one = absurd (unlike 4 (at (ends [] (no_such_file name)) is) refl one)
      by (run_long limit l is) one = absurd (unlike 11 (at (ends [] (past limit)) is) refl one)
      by (run_treeless texts name reason has within t is) one = absurd (unlike 5 (at (ends [] (not_readable name reason)) is) refl one)
      by (run_starts texts roots has within r is) one =
          let t : IsSettled (start_of wanted texts) old new n = start-settled (start_of wanted texts) (at (starts (start_of wanted texts)) is) (λ e. unlike 5 e refl one) (λ e. unlike 1 e refl one) in
          record { last = t.last; held = record { texts = texts; has = has; trees = roots-lack (trees_wanted wanted texts) roots r; came = t.came }; is = t.is }

      settles : RunCase wanted files → (last : End) → IsOneOf (status_of last) settling → SessionTo wanted files last old new → IsOneOf n (status_of last ∷ 3 ∷ 9 ∷ 10 ∷ (disk_failed_if_full new.disk ++ statuses_beside new.disk.told (is_some old.link.taken) (status_of last)))
      settles (run_many many is) last one h = absurd (no-session-of-many wanted files old new n last many h)
      settles (run_missing name m is) last one h = absurd (missing-texts wanted files old new n h.texts h.has m)
      settles (run_long limit l is) last one h = absurd (long-texts wanted files old new n h.texts h.has l)
      settles (run_treeless texts name reason has within t is) last one h = absurd ((session-texts wanted files old new n texts has last h).1 (lacks-tree (trees_wanted wanted texts) t))
      settles (run_starts texts roots has within r is) last one h = session-stands texts (at (starts (start_of wanted texts)) is) has last one h
