-- Which statuses of a session may stand in the place of another, where the disk is told.
use Rattle.std.proofs.Common.{◌≡◌, ◌⊎◌, inl, inr, sym, refl, subst, arith, ℕ, ◌<◌, ◌≤◌, Bool, true, false, List, [], ◌∷◌}
use Rattle.std.specs.Prelude.{IsSome, IsTrue, is_some, nat_eq}
use Rattle.std.specs.List.{list_any}
use Rattle.cacao_site.specs.View.{SiteView}
use Rattle.cacao_cli_ends.specs.Ends.{End, status_of}
use Rattle.cacao_cli_ends.specs.Comes.{IsOneOf, statuses_beside}
use Rattle.cacao_cli_session.specs.Holding.{CameTo, IsAcceptedStart}
use Rattle.cacao_cli_session_laws.specs.Returning.{AsksSo, CouldAppend, FindsFirstUsed, HasDamagedFilter, IsLateSo, NextActPasses, PassesInHand, ReadsAsAnother, ReadsAsDamaged, ReadsTooLarge, ReturnsSo, WouldPassSo, or_any}
use Rattle.cacao_cli_ends.specs.Work.{Start}
use Rattle.cacao_cli_session_laws.proofs.ApartLemmas.{act-not, asked-past, flooded-apart}
use Rattle.cacao_cli_session_laws.proofs.CameLemmas.{came-acted, came-told}
use Rattle.cacao_cli_session_laws.proofs.HoldLemmas.{holds-status}
use Rattle.cacao_cli_session_laws.proofs.JudgedLemmas.{came-accepted}
use Rattle.cacao_cli_session_laws.proofs.SessionReturns.{session-returns}
use Rattle.cacao_cli_session_laws.proofs.ReturnTells.{besides, closing, faults, reaching}
use Rattle.cacao_cli_session_laws.proofs.ReturnedRuns.{ReadsImages, reads-before}
use Rattle.cacao_cli_ends.proofs.StatusLists.{apart-lists, are_among, are_apart, not-among, parcel_statuses, session_statuses, widen}

-- the statuses that the files and the clock settle
abbrev pub settled : List ℕ
settled = 0 ∷ 6 ∷ 7 ∷ 12 ∷ 13 ∷ 14 ∷ []

apart : (n m : ℕ) (ms : List ℕ) → list_any (nat_eq m) ms ≡ false → n ≡ m → IsOneOf n ms → ⊥
apart n m ms none e h = not-among m ms none (subst (λ (k : ℕ). IsOneOf k ms) e h)

-- a fault, or one of those behind them
either : (n : ℕ) (ms : List ℕ) → IsOneOf n (or_any ms) → IsOneOf n faults ⊎ IsOneOf n ms
either n ms (inl e) = inl (inl e)
either n ms (inr (inl e)) = inl (inr (inl e))
either n ms (inr (inr (inl e))) = inl (inr (inr (inl e)))
either n ms (inr (inr (inr (inl e)))) = inl (inr (inr (inr (inl e))))
either n ms (inr (inr (inr (inr (inl e))))) = inl (inr (inr (inr (inr (inl e)))))
either n ms (inr (inr (inr (inr (inr h))))) = inr h

-- ---- two statuses of what is told alike

-- the one is 13
stands-13 : (start : Start) (old new : SiteView) (a b : ℕ) → ReturnsSo start old new a → ReturnsSo start old new b → a ≡ 13 → IsOneOf b (13 ∷ faults)
stands-13 start old new a b ra rb e = go (ra.of_status.damaged e)
  where
    by : IsOneOf b (13 ∷ faults) ⊎ (((b ≡ 11) × ReadsTooLarge start new) ⊎ ((b ≡ 12) × ReadsAsAnother start new)) → IsOneOf b (13 ∷ faults)
    by (inl h) = h
    by (inr (inl h)) = absurd (apart a 13 (11 ∷ faults) refl e (ra.of_file.too_large h.1))
    by (inr (inr h)) = absurd (apart a 13 (12 ∷ faults) refl e (ra.of_file.another h.1))

    go : ReadsAsDamaged start new ⊎ HasDamagedFilter start new → IsOneOf b (13 ∷ faults)
    go (inl d) = rb.of_file.damaged d
    go (inr f) = by (rb.of_file.filter_damaged f)

-- it is 12
stands-12 : (start : Start) (old new : SiteView) (a b : ℕ) → ReturnsSo start old new a → ReturnsSo start old new b → a ≡ 12 → IsOneOf b (12 ∷ faults)
stands-12 start old new a b ra rb e = go (ra.of_status.another e)
  where
    behind : IsOneOf b faults ⊎ IsOneOf b (13 ∷ []) → IsOneOf b (12 ∷ faults)
    behind (inl h) = inr h
    behind (inr (inl f)) = absurd (apart a 12 (13 ∷ faults) refl e (stands-13 start old new b a rb ra f))
    behind (inr (inr h)) = absurd h

    by : IsOneOf b (12 ∷ or_any (13 ∷ [])) → IsOneOf b (12 ∷ faults)
    by (inl f) = inl f
    by (inr h) = behind (either b (13 ∷ []) h)

    go : ReadsAsAnother start new ⊎ (FindsFirstUsed start new × (HasDamagedFilter start new → ⊥)) → IsOneOf b (12 ∷ faults)
    go (inl h) = rb.of_file.another h
    go (inr u) = by (rb.of_file.used u.0.used)

-- 11 tells what the other may exclude
past-apart : (start : Start) (old new : SiteView) (b : ℕ) → ReturnsSo start old new b → b ≡ 11 → (ReadsTooLarge start new → ⊥) → (9_000_000_000_000_000 < new.clock.now → ⊥) → (CouldAppend start old new → ⊥) → ⊥
past-apart start old new b rb e large late could = go (rb.of_status.past e)
  where
    go : ReadsTooLarge start new ⊎ WouldPassSo start old new → ⊥
    go (inl l) = large l
    go (inr (inl l)) = late l.late
    go (inr (inr (inl d))) = could d.could
    go (inr (inr (inr (inl n)))) = could n.could
    go (inr (inr (inr (inr p)))) = could p.could

module _ (start : Start) (old new : SiteView) (accepted : IsAcceptedStart start) (a b : ℕ) (ra : ReturnsSo start old new a) (rb : ReturnsSo start old new b) where
  -- it is 14
  short-reached : a ≡ 14 → new.clock.asked ≤ new.clock.now → ⊥
  short-reached e le = let short = (ra.of_status.waits e).0 in omega (arith, short, le)

  stands-14 : a ≡ 14 → IsOneOf b session_statuses → IsOneOf b (14 ∷ faults)
  stands-14 e listed = go listed
    where
      reached-not : IsOneOf b reaching → IsOneOf b (14 ∷ faults)
      reached-not one = absurd (short-reached e (rb.of_status.reached one))

      go : IsOneOf b session_statuses → IsOneOf b (14 ∷ faults)
      go (inl f) = reached-not (inl f)
      go (inr (inl f)) = reached-not (inr (inl f))
      go (inr (inr (inl f))) = reached-not (inr (inr (inl f)))
      go (inr (inr (inr (inl f)))) = inr (inr (inr (inl f)))
      go (inr (inr (inr (inr (inl f))))) = inr (inr (inr (inr (inl f))))
      go (inr (inr (inr (inr (inr (inl f)))))) = inr (inr (inr (inr (inr (inl f)))))
      go (inr (inr (inr (inr (inr (inr (inl f))))))) = absurd (past-apart start old new b rb f
          (λ l. apart a 14 (11 ∷ faults) refl e (ra.of_file.too_large l))
          (λ lt. apart a 14 (11 ∷ or_any (12 ∷ 13 ∷ [])) refl e (ra.of_turn.late accepted lt))
          (λ c. short-reached e c.reached))
      go (inr (inr (inr (inr (inr (inr (inr (inl f)))))))) = absurd (apart a 14 (12 ∷ faults) refl e (stands-12 start old new b a rb ra f))
      go (inr (inr (inr (inr (inr (inr (inr (inr (inl f))))))))) = absurd (apart a 14 (13 ∷ faults) refl e (stands-13 start old new b a rb ra f))
      go (inr (inr (inr (inr (inr (inr (inr (inr (inr (inl f)))))))))) = inl f
      go (inr (inr (inr (inr (inr (inr (inr (inr (inr (inr (inl f))))))))))) = reached-not (inr (inr (inr (inl f))))
      go (inr (inr (inr (inr (inr (inr (inr (inr (inr (inr (inr (inl f)))))))))))) = reached-not (inr (inr (inr (inr (inl f)))))
      go (inr (inr (inr (inr (inr (inr (inr (inr (inr (inr (inr (inr none)))))))))))) = absurd none

  -- it is 0 or 6
  stands-ended : (m : ℕ) → a ≡ m → IsOneOf a reaching → list_any (nat_eq m) (11 ∷ faults) ≡ false → list_any (nat_eq m) (11 ∷ or_any (12 ∷ 13 ∷ [])) ≡ false
      → list_any (nat_eq m) (7 ∷ 12 ∷ 15 ∷ 16 ∷ or_any besides) ≡ false → list_any (nat_eq m) (13 ∷ faults) ≡ false → IsOneOf b (m ∷ or_any besides) → IsOneOf b (m ∷ faults)
  stands-ended m e reaches large late goes damaged (inl f) = inl f
  stands-ended m e reaches large late goes damaged (inr h) = go (either b besides h)
    where
      go : IsOneOf b faults ⊎ IsOneOf b besides → IsOneOf b (m ∷ faults)
      go (inl h) = inr h
      go (inr (inl f)) = absurd (past-apart start old new b rb f
          (λ l. apart a m (11 ∷ faults) large e (ra.of_file.too_large l))
          (λ lt. apart a m (11 ∷ or_any (12 ∷ 13 ∷ [])) late e (ra.of_turn.late accepted lt))
          (λ c. apart a m (7 ∷ 12 ∷ 15 ∷ 16 ∷ or_any besides) goes e (ra.of_file.goes_on c.goes_on)))
      go (inr (inr (inl f))) = absurd (apart a m (13 ∷ faults) damaged e (stands-13 start old new b a rb ra f))
      go (inr (inr (inr (inl f)))) = absurd (let short = (rb.of_status.waits f).0 in let reached = ra.of_status.reached reaches in omega (arith, short, reached))
      go (inr (inr (inr (inr none)))) = absurd none

  -- so of each that the files and the clock settle
  stands-settled : IsOneOf a settled → IsOneOf b session_statuses → IsOneOf b (a ∷ faults)
  stands-settled (inl e) listed = at 0 e (stands-ended 0 e (inl e) refl refl refl refl (rb.of_file.well (ra.of_status.well e)))
    where
      at : (m : ℕ) → a ≡ m → IsOneOf b (m ∷ faults) → IsOneOf b (a ∷ faults)
      at m e h = subst (λ (k : ℕ). IsOneOf b (k ∷ faults)) (sym e) h
  stands-settled (inr (inl e)) listed = at 6 e (stands-ended 6 e (inr (inl e)) refl refl refl refl (rb.of_file.failed (ra.of_status.failed e)))
    where
      at : (m : ℕ) → a ≡ m → IsOneOf b (m ∷ faults) → IsOneOf b (a ∷ faults)
      at m e h = subst (λ (k : ℕ). IsOneOf b (k ∷ faults)) (sym e) h
  stands-settled (inr (inr (inl e))) listed = subst (λ (k : ℕ). IsOneOf b (k ∷ faults)) (sym e) (rb.of_file.pauses (ra.of_status.pauses e))
  stands-settled (inr (inr (inr (inl e)))) listed = subst (λ (k : ℕ). IsOneOf b (k ∷ faults)) (sym e) (stands-12 start old new a b ra rb e)
  stands-settled (inr (inr (inr (inr (inl e))))) listed = subst (λ (k : ℕ). IsOneOf b (k ∷ faults)) (sym e) (stands-13 start old new a b ra rb e)
  stands-settled (inr (inr (inr (inr (inr (inl e)))))) listed = subst (λ (k : ℕ). IsOneOf b (k ∷ faults)) (sym e) (stands-14 e listed)
  stands-settled (inr (inr (inr (inr (inr (inr none)))))) listed = absurd none

-- ---- two ends of sessions

-- faults but that no file was read
told-faults : (n : ℕ) (ms : List ℕ) → IsOneOf n session_statuses → IsOneOf n faults → IsOneOf n (3 ∷ 8 ∷ 9 ∷ 10 ∷ ms)
told-faults n ms listed (inl e) = inl e
told-faults n ms listed (inr (inl e)) = absurd (apart n 5 session_statuses refl e listed)
told-faults n ms listed (inr (inr (inl e))) = inr (inl e)
told-faults n ms listed (inr (inr (inr (inl e)))) = inr (inr (inl e))
told-faults n ms listed (inr (inr (inr (inr (inl e))))) = inr (inr (inr (inl e)))
told-faults n ms listed (inr (inr (inr (inr (inr h))))) = absurd h

module _ (start : Start) (old new : SiteView) (images : ReadsImages new) (told : IsTrue new.disk.told) (some : 1 ≤ start.most) (first last : End) (came : CameTo start first old new) (other : CameTo start last old new) where
  returns-of : (end : End) → CameTo start end old new → ReturnsSo start old new (status_of end)
  returns-of end c = session-returns start old c.between new (reads-before c.between new c.behind images) c.behind told some end (status_of end) c.session refl

  listed-of : (end : End) → CameTo start end old new → IsOneOf (status_of end) session_statuses
  listed-of end c = holds-status c.session.given start.run start.most c.session.answers old c.between end c.session.holds

  accepted : IsAcceptedStart start
  accepted = came-accepted start old new first came

  -- a status that the files and the clock settle
  pub stands-beside : IsOneOf (status_of first) settled → IsOneOf (status_of last) (status_of first ∷ 3 ∷ 8 ∷ 9 ∷ 10 ∷ [])
  stands-beside h = go (stands-settled start old new accepted (status_of first) (status_of last) (returns-of first came) (returns-of last other) h (listed-of last other))
    where
      go : IsOneOf (status_of last) (status_of first ∷ faults) → IsOneOf (status_of last) (status_of first ∷ 3 ∷ 8 ∷ 9 ∷ 10 ∷ [])
      go (inl e) = inl e
      go (inr f) = inr (told-faults (status_of last) [] (listed-of last other) f)

  -- one that rests on the parcels
  stands-by-parcels : IsOneOf (status_of first) parcel_statuses → IsOneOf (status_of last) (3 ∷ 8 ∷ 9 ∷ 10 ∷ parcel_statuses)
  stands-by-parcels h = go (listed-of last other)
    where
      not-settled : (k : ℕ) → status_of last ≡ k → IsOneOf (status_of last) settled → are_apart parcel_statuses (k ∷ faults) ≡ true → IsOneOf (status_of last) (3 ∷ 8 ∷ 9 ∷ 10 ∷ parcel_statuses)
      not-settled k e one none = absurd (apart-lists (status_of first) parcel_statuses (k ∷ faults) none h (subst (λ (m : ℕ). IsOneOf (status_of first) (m ∷ faults)) e
          (stands-settled start old new accepted (status_of last) (status_of first) (returns-of last other) (returns-of first came) one (listed-of first came))))

      go : IsOneOf (status_of last) session_statuses → IsOneOf (status_of last) (3 ∷ 8 ∷ 9 ∷ 10 ∷ parcel_statuses)
      go (inl e) = not-settled 0 e (inl e) refl
      go (inr (inl e)) = not-settled 6 e (inr (inl e)) refl
      go (inr (inr (inl e))) = not-settled 7 e (inr (inr (inl e))) refl
      go (inr (inr (inr (inl e)))) = inr (inl e)
      go (inr (inr (inr (inr (inl e))))) = inr (inr (inl e))
      go (inr (inr (inr (inr (inr (inl e)))))) = inr (inr (inr (inl e)))
      go (inr (inr (inr (inr (inr (inr (inl e))))))) = inr (inr (inr (inr (inl e))))
      go (inr (inr (inr (inr (inr (inr (inr (inl e)))))))) = not-settled 12 e (inr (inr (inr (inl e)))) refl
      go (inr (inr (inr (inr (inr (inr (inr (inr (inl e))))))))) = not-settled 13 e (inr (inr (inr (inr (inl e))))) refl
      go (inr (inr (inr (inr (inr (inr (inr (inr (inr (inl e)))))))))) = not-settled 14 e (inr (inr (inr (inr (inr (inl e)))))) refl
      go (inr (inr (inr (inr (inr (inr (inr (inr (inr (inr (inl e))))))))))) = inr (inr (inr (inr (inr (inl e)))))
      go (inr (inr (inr (inr (inr (inr (inr (inr (inr (inr (inr (inl e)))))))))))) = inr (inr (inr (inr (inr (inr (inl e))))))
      go (inr (inr (inr (inr (inr (inr (inr (inr (inr (inr (inr (inr none)))))))))))) = absurd none

  -- ---- where the parcels taken are told

  asked-one : (b : End) → status_of b ≡ 16 → IsOneOf (status_of b) closing
  asked-one b e = inr (inr (inr (inr (inr (inl e)))))

  flooded-one : (b : End) → status_of b ≡ 15 → IsOneOf (status_of b) closing
  flooded-one b e = inr (inr (inr (inr (inl e))))

  -- a flooded session and a question exclude each other
  flooded-not-asked : (a b : End) → CameTo start a old new → CameTo start b old new → IsSome old.link.taken → status_of a ≡ 15 → status_of b ≡ 16 → ⊥
  flooded-not-asked a b p q taken e f = go ((returns-of b q).of_turn.floods ((returns-of a p).of_status.floods e).0 taken)
    where
      go : IsOneOf (status_of b) (15 ∷ or_any []) ⊎ ((status_of b ≡ 11) × PassesInHand start old new) → ⊥
      go (inl one) = apart (status_of b) 16 (15 ∷ or_any []) refl f one
      go (inr h) = let past = h.0 in omega (arith, past, f)

  -- so do what would pass a limit and a question
  past-not-asked : (a b : End) → CameTo start a old new → CameTo start b old new → IsSome old.link.taken → status_of a ≡ 11 → status_of b ≡ 16 → ⊥
  past-not-asked a b p q taken e f = go ((returns-of a p).of_status.past e)
    where
      asked : AsksSo start old new
      asked = (returns-of b q).of_status.asks f

      by : IsLateSo start new ⊎ NextActPasses start old new → ⊥
      by (inl late) = apart (status_of b) 16 (11 ∷ or_any (12 ∷ 13 ∷ [])) refl f ((returns-of b q).of_turn.late accepted late.late)
      by (inr act) = act-not start old new taken (came-told start old new images told b q (asked-one b f) taken) (came-acted start old new images told b q (asked-one b f)) act

      go : ReadsTooLarge start new ⊎ WouldPassSo start old new → ⊥
      go (inl large) = apart (status_of b) 16 (11 ∷ faults) refl f ((returns-of b q).of_file.too_large large)
      go (inr would) = by (asked-past start old new asked would)

  -- and what would pass a limit and a flooded session
  past-not-flooded : (a b : End) → CameTo start a old new → CameTo start b old new → IsSome old.link.taken → status_of a ≡ 11 → status_of b ≡ 15 → ⊥
  past-not-flooded a b p q taken e f = go ((returns-of a p).of_turn.floods ((returns-of b q).of_status.floods f).0 taken)
    where
      go : IsOneOf (status_of a) (15 ∷ or_any []) ⊎ ((status_of a ≡ 11) × PassesInHand start old new) → ⊥
      go (inl one) = apart (status_of a) 11 (15 ∷ or_any []) refl e one
      go (inr h) = flooded-apart start old new taken (came-told start old new images told b q (flooded-one b f) taken) (came-acted start old new images told b q (flooded-one b f))
          (((returns-of b q).of_status.floods f).1 taken) h.1

  but : (n m : ℕ) (ms : List ℕ) → (n ≡ m → ⊥) → IsOneOf n (m ∷ ms) → IsOneOf n ms
  but n m ms not (inl e) = absurd (not e)
  but n m ms not (inr h) = h

  -- none of these stands for another where they are told
  alone : (m k j : ℕ) → are_among (3 ∷ 8 ∷ 9 ∷ 10 ∷ parcel_statuses) (k ∷ j ∷ m ∷ 3 ∷ 8 ∷ 9 ∷ 10 ∷ []) ≡ true → IsOneOf (status_of first) parcel_statuses
      → (status_of last ≡ k → ⊥) → (status_of last ≡ j → ⊥) → IsOneOf (status_of last) (m ∷ 3 ∷ 8 ∷ 9 ∷ 10 ∷ [])
  alone m k j all one not nor = but (status_of last) j (m ∷ 3 ∷ 8 ∷ 9 ∷ 10 ∷ []) nor (but (status_of last) k (j ∷ m ∷ 3 ∷ 8 ∷ 9 ∷ 10 ∷ []) not
      (widen (status_of last) (3 ∷ 8 ∷ 9 ∷ 10 ∷ parcel_statuses) (k ∷ j ∷ m ∷ 3 ∷ 8 ∷ 9 ∷ 10 ∷ []) all (stands-by-parcels one)))

  pub stands-11 : (t : Bool) → is_some old.link.taken ≡ t → status_of first ≡ 11 → IsOneOf (status_of last) (11 ∷ 3 ∷ 8 ∷ 9 ∷ 10 ∷ statuses_beside true t 11)
  stands-11 true taken e = alone 11 15 16 refl (inl e) (λ f. past-not-flooded first last came other taken e f) (λ f. past-not-asked first last came other taken e f)
  stands-11 false taken e = widen (status_of last) (3 ∷ 8 ∷ 9 ∷ 10 ∷ parcel_statuses) (11 ∷ 3 ∷ 8 ∷ 9 ∷ 10 ∷ 15 ∷ 16 ∷ []) refl (stands-by-parcels (inl e))

  pub stands-15 : (t : Bool) → is_some old.link.taken ≡ t → status_of first ≡ 15 → IsOneOf (status_of last) (15 ∷ 3 ∷ 8 ∷ 9 ∷ 10 ∷ statuses_beside true t 15)
  stands-15 true taken e = alone 15 11 16 refl (inr (inl e)) (λ f. past-not-flooded last first other came taken f e) (λ f. flooded-not-asked first last came other taken e f)
  stands-15 false taken e = widen (status_of last) (3 ∷ 8 ∷ 9 ∷ 10 ∷ parcel_statuses) (15 ∷ 3 ∷ 8 ∷ 9 ∷ 10 ∷ 11 ∷ 16 ∷ []) refl (stands-by-parcels (inr (inl e)))

  pub stands-16 : (t : Bool) → is_some old.link.taken ≡ t → status_of first ≡ 16 → IsOneOf (status_of last) (16 ∷ 3 ∷ 8 ∷ 9 ∷ 10 ∷ statuses_beside true t 16)
  stands-16 true taken e = alone 16 11 15 refl (inr (inr (inl e))) (λ f. past-not-asked last first other came taken f e) (λ f. flooded-not-asked last first other came taken f e)
  stands-16 false taken e = widen (status_of last) (3 ∷ 8 ∷ 9 ∷ 10 ∷ parcel_statuses) (16 ∷ 3 ∷ 8 ∷ 9 ∷ 10 ∷ 11 ∷ 15 ∷ []) refl (stands-by-parcels (inr (inr (inl e))))
