-- What the laws on parcels ask is needed: the end says it of the parcel that was put.
use Rattle.std.proofs.Common.{◌≡◌, ℕ, zero, suc, ◌≤◌, List, [], ◌∷◌, ◌++◌, length, sym, subst, refl, arith, true, false, IsTrue}
use Rattle.std.specs.Prelude.{Contains, Some, None, drop}
use Rattle.cacao_site.specs.View.{SiteView}
use Rattle.cacao_site.specs.declared.parcel.Parcel.{Parcel}
use Rattle.run_records.specs.declared.act.Act.{Act}
use Rattle.flow_laws.specs.Acts.{HasReply, IsBytes}
use Rattle.flow_laws.specs.Images.{puts_to, IsAgent, IsActs, EachJournal}
use Rattle.flow_laws.specs.Good.{IsGood, IsChoice}
use Rattle.flow_laws.specs.Held.{Speech, IsHeldAs, HasOpenSend}
use Rattle.flow_laws.specs.Beats.{OnlyChanges}

last_one : {T : Type 0} (xs : List T) (x : T) → Contains (xs ++ x ∷ []) x
last_one [] x = (0, omega arith, refl)
last_one (y ∷ xs) x = let rest = last_one xs x in (suc rest.0, omega (arith, rest.1), rest.2)

past_first : {T : Type 0} (n : ℕ) (xs : List T) (x : T) → n ≤ length xs → Contains (drop n (xs ++ x ∷ [])) x
past_first zero xs x le = last_one xs x
past_first (suc n) [] x le = absurd (omega (arith, le))
past_first (suc n) (y ∷ xs) x le = past_first n xs x (omega (arith, le))

module _ (speech : Speech) (earlier : SiteView) (early : ℕ) (later : SiteView) (late : ℕ) (parcel : Parcel)
    (only : OnlyChanges speech None (Some parcel) None earlier early later late) where
  -- a reply is from an agent with its act, in each image of its file
  pub put_reply_has_act : parcel.back ≡ true → IsGood later late → (choice : ℕ → List ℕ) → IsChoice later late choice
      → IsAgent parcel.agent × ((acts : List Act) × (IsActs (choice parcel.agent) acts × HasReply acts parcel.run parcel.issue (IsBytes parcel.bytes)))
  put_reply_has_act back good choice each =
      let on = good.each choice each in
      let has : Contains (puts_to later late) (late, parcel) =
      subst (λ (l : List (ℕ × Parcel)). Contains l (late, parcel)) (sym only.puts) (last_one (puts_to earlier early) (late, parcel)) in
      let of = on.agree.replies late parcel has back in
      (of.is_agent, (on.acts parcel.agent, (on.are_acts parcel.agent of.is_agent, of.reply)))

  -- a command of the session's own has an open Send of its run, in each image of the journal
  pub put_command_is_open : (first : ℕ) → first ≤ length (puts_to earlier early) → parcel.back ≡ false → IsTrue (speech.is_own parcel.run)
      → IsHeldAs speech later first late → EachJournal later late (λ records. HasOpenSend records parcel)
  put_command_is_open first few command own held = held.was_open late parcel (record {
    has = subst (λ (l : List (ℕ × Parcel)). Contains (drop first l) (late, parcel)) (sym only.puts) (past_first first (puts_to earlier early) (late, parcel) few);
    command = command;
    own = own;
  })
