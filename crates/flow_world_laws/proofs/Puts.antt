-- What a session puts.
use Rattle.std.proofs.Common.{◌≡◌, inl, inr, ℕ, ◌≤◌, false, List, [], ◌++◌, length, Option, Some, None, refl, sym, ap, subst, ◌∙◌, arith, All}
use Rattle.std.specs.Prelude.{Contains, IfSome, IsSome, drop}
use Rattle.std.proofs.Math.Seq.{drop-append_seam}
use Rattle.std.proofs.lemmas.Bool.{false≢true}
use Rattle.std.proofs.lemmas.List.{append_cancel_left}
use Rattle.std.proofs.lemmas.List.Elements.{All-contains}
use Rattle.cacao_site.specs.LinkCalls.{GainsAll}
use Rattle.cacao_site.specs.Sound.{IsSound}
use Rattle.cacao_site.specs.View.{LinkView, SiteView}
use Rattle.cacao_site.specs.declared.parcel.Parcel.{Parcel}
use Rattle.flow_core_rules.specs.Givens.{Given}
use Rattle.flow_engine.specs.OpenIssues.{most_puts}
use Rattle.flow_engine_answers.specs.declared.answers.OperatorAnswer.{OperatorAnswer}
use Rattle.flow_laws.specs.Held.{IsHeld}
use Rattle.flow_laws.specs.Images.{puts_of, puts_to, session_puts, told_list, up_to}
use Rattle.flow_laws.proofs.Calls.{all_past}
use Rattle.flow_world_steps.specs.Link.{IsOwn, PutsNoted, RepliesFew, commands_in, commands_of, in_hand, replies_in}
use Rattle.flow_world_steps.specs.Whole.{AddsUp}
use Rattle.flow_world_steps.specs.Worlds.{World}
use Rattle.flow_world_steps.proofs.Growth.{gains_same}
use Rattle.flow_world_parts.specs.Openings.{RefusesOpening}
use Rattle.flow_world_parts.specs.declared.error.WorldError.{WorldError}
use Rattle.flow_world.specs.Sessions.{IsStart, KeepsAgreement, Went}
use Rattle.flow_world_laws.proofs.Taken.{none_in}
use Rattle.flow_world_laws.specs.Puts.{EachClosePutsFew, EachRefusalPutsFew, EachSessionPutsFew, IsCommandOf, PutsFew}
use Rattle.flow_world_laws.specs.Returns.{IsSession}
use Rattle.flow_world_laws.proofs.Behind.{sums}
use Rattle.flow_world_laws.proofs.Returns.{session_of}

-- ---- lists

-- what a told list gained is one list
same_gains : {T : Type 0} (a b : Option (List T)) (xs ys : List T) → IsSome a → GainsAll a xs b → GainsAll a ys b → xs ≡ ys
same_gains None b xs ys some one other = absurd (false≢true some)
same_gains (Some l) None xs ys some one other = absurd one
same_gains (Some l) (Some m) xs ys some one other = append_cancel_left l xs ys (sym one ∙ other)

past_told : (beat : ℕ) (o : Option (List (ℕ × Parcel))) (l : List (ℕ × Parcel)) → o ≡ Some l → IfSome o (λ l. All (λ (e : ℕ × Parcel). e.0 ≤ beat) l) → up_to beat (told_list o) ≡ l
past_told beat o l is past =
    ap (λ (x : Option (List (ℕ × Parcel))). up_to beat (told_list x)) is
    ∙ all_past beat l (subst (λ (x : Option (List (ℕ × Parcel))). IfSome x (λ l. All (λ (e : ℕ × Parcel). e.0 ≤ beat) l)) is past)

-- the puts past the first ones are those of the session
own_puts : (old new : SiteView) (put : List (ℕ × Parcel)) → IsSound new → (was now : Option (List (ℕ × Parcel))) → old.link.puts ≡ was → new.link.puts ≡ now → IsSome was → GainsAll was put now
    → session_puts (puts_of old) new new.disk.beat ≡ put
own_puts old new put sound None now e f some gains = absurd (false≢true some)
own_puts old new put sound (Some l) None e f some gains = absurd gains
own_puts old new put sound (Some l) (Some m) e f some gains =
    let first : puts_of old ≡ length l = ap (λ (o : Option (List (ℕ × Parcel))). length (told_list o)) e in
    let told : new.link.puts ≡ Some (l ++ put) = f ∙ ap (λ (x : List (ℕ × Parcel)). Some x) gains in
    let all : puts_to new new.disk.beat ≡ l ++ put = past_told new.disk.beat new.link.puts (l ++ put) told sound.puts.past in
    ap (λ (n : ℕ). drop n (puts_to new new.disk.beat)) first ∙ ap (λ (x : List (ℕ × Parcel)). drop (length l) x) all ∙ drop-append_seam l put

-- ---- a session

module _ (given : Given) (run most : ℕ) (answers : List OperatorAnswer) (a b : World) (old new : SiteView) (is : IsSession given run most answers a b old new) (sound : IsSound new)
    (some : IsSome old.link.puts) (held : IsHeld new (puts_of old) new.disk.beat) where
  added_up : AddsUp a b most
  added_up = sums given run most answers a b is.begins is.steps

  noted : PutsNoted a b
  noted = added_up.noted

  few : RepliesFew a b
  few = added_up.replies_few

  link : a.site.link ≡ old.link
  link = is.rest.link ∙ is.journal.opens.only.rest.link

  gains : (l : List (ℕ × Parcel)) → GainsAll a.site.link.puts l b.site.link.puts → GainsAll old.link.puts l new.link.puts
  gains l is_so = subst (λ (x : LinkView). GainsAll x.puts l new.link.puts) link (subst (λ (s : SiteView). GainsAll a.site.link.puts l s.link.puts) is.to_is is_so)

  one_list : noted.put ≡ few.put
  one_list = same_gains old.link.puts new.link.puts noted.put few.put some (gains noted.put noted.puts) (gains few.put few.puts)

  command_of : (e : ℕ × Parcel) → Contains noted.put e → e.1.back ≡ false → IsCommandOf run new e.0 e.1
  command_of e has command =
      let own : IsOwn a.engine.history.seen.run e = All-contains (IsOwn a.engine.history.seen.run) noted.put e noted.own has in
      let past : session_puts (puts_of old) new new.disk.beat ≡ noted.put =
      own_puts old new noted.put sound old.link.puts new.link.puts refl refl some (gains noted.put noted.puts) in
      let among : Contains (session_puts (puts_of old) new new.disk.beat) (e.0, e.1) = subst (λ (l : List (ℕ × Parcel)). Contains l (e.0, e.1)) (sym past) has in
      record { of_run = own command ∙ is.begins.of_run; sent = held.was_open e.0 e.1 (record { has = among; command = command; own = refl }) }

  few_commands : (issue : ℕ) → commands_of run issue noted.put ≤ most_puts
  few_commands issue =
      let so = noted.noted issue in
      let counted = added_up.counted.few issue in
      let same : commands_of a.engine.history.seen.run issue noted.put ≡ commands_of run issue noted.put = ap (λ (n : ℕ). commands_of n issue noted.put) is.begins.of_run in
      omega (arith, so, counted, same)

  few_replies : replies_in noted.put ≤ commands_in few.taken
  few_replies =
      let same : replies_in noted.put ≡ replies_in few.put = ap replies_in one_list in
      let none : in_hand a.phase ≡ 0 = ap in_hand is.begins.phase in
      let so = few.few in
      omega (arith, same, none, so)

  pub puts_few : PutsFew run old new
  puts_few = record {
    put = noted.put;
    puts = gains noted.put noted.puts;
    taken = few.taken;
    takes = subst (λ (x : LinkView). GainsAll x.taken few.taken new.link.taken) link (subst (λ (s : SiteView). GainsAll a.site.link.taken few.taken s.link.taken) is.to_is few.takes);
    commands = command_of;
    few = few_commands;
    replies = few_replies;
  }

pub each_session_puts_few : EachSessionPutsFew
each_session_puts_few given run most answers a b old new is sound some held = puts_few given run most answers a b old new is sound some held

went_puts_few : (given : Given) (run most : ℕ) (answers : List OperatorAnswer) (old new : SiteView) → IsSound new → IsStart old run → KeepsAgreement old new → Went given run most answers old new → PutsFew run old new
went_puts_few given run most answers old new sound start keeps went =
    puts_few given run most answers went.start went.to old new (session_of given run most answers old new went) sound start.puts (keeps.each new.disk.beat keeps.later (omega arith)).held

-- ---- a refused opening

same_link : (error : WorldError) (given : Given) (run : ℕ) (old new : SiteView) → RefusesOpening error given run old new → new.link ≡ old.link
same_link error given run old new (inl one) = one.opens.only.rest.link
same_link error given run old new (inr two) = (two.refuses).refuses.opens.only.rest.link ∙ (two.refuses).before.rest.link ∙ two.journal.opens.only.rest.link

nothing_put : (run : ℕ) (old new : SiteView) → new.link ≡ old.link → PutsFew run old new
nothing_put run old new link = record {
  put = [];
  puts = gains_same old.link.puts new.link.puts (ap (λ (l : LinkView). l.puts) link);
  taken = [];
  takes = gains_same old.link.taken new.link.taken (ap (λ (l : LinkView). l.taken) link);
  commands = λ e has. absurd (none_in e has);
  few = λ issue. omega arith;
  replies = omega arith;
}

-- ---- the law

pub each_close_puts_few : EachClosePutsFew
each_close_puts_few close given run most answers old new sound start keeps closed = went_puts_few given run most answers old new sound start keeps closed.went

pub each_refusal_puts_few : EachRefusalPutsFew
each_refusal_puts_few error given run most answers old new sound start keeps (inl opening) = nothing_put run old new (same_link error given run old new opening)
each_refusal_puts_few error given run most answers old new sound start keeps (inr later) = went_puts_few given run most answers old new sound start keeps later.went
