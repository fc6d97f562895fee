-- What a session of a `run` did to its run, and with the parcels that it took.
use Rattle.std.proofs.Common.{◌⊎◌, inl, inr, sym, subst, arith, ℕ, List, ◌++◌, IsTrue}
use Rattle.cacao_site.specs.Counts.{DidNotRise}
use Rattle.cacao_site.specs.Sound.{IsSound}
use Rattle.cacao_site.specs.View.{SiteView}
use Rattle.cacao_site.specs.declared.parcel.Parcel.{Parcel}
use Rattle.flow_core_rules.specs.Givens.{Given}
use Rattle.flow_engine_answers.specs.declared.answers.OperatorAnswer.{OperatorAnswer}
use Rattle.flow_laws.specs.Images.{IsRecords}
use Rattle.flow_world.specs.Sessions.{HasRefused, IsStart}
use Rattle.flow_world_laws.specs.Parcels.{AreHandled, IsOfTaken, Took}
use Rattle.flow_world_laws.proofs.Parcels.{each_close_handles, each_refusal_handles}
use Rattle.flow_world.specs.WorldError.{WorldError}
use Rattle.cacao_cli_peers.specs.Prefixes.{GoesOn, GoesOnDurably}
use Rattle.cacao_cli_peers.proofs.Prefixes.{each_close_goes_on, each_later_refusal_goes_on, each_refusal_goes_on, each_second_refusal_goes_on}
use Rattle.cacao_cli_ends.specs.Ends.{End}
use Rattle.cacao_cli_ends.specs.Lines.{SaysAtMostALine}
use Rattle.cacao_cli_session.specs.Holding.{ClosesSo, HoldsSo, RefusesSo}
use Rattle.cacao_cli.specs.Calls.{HasOpened, handled_of, opened_by}

-- ---- behind the last line

pub goes-behind : (most : ℕ) (old mid new : SiteView) → SaysAtMostALine mid new → GoesOn most old mid → GoesOn most old new
goes-behind most old mid new (inl is) goes = subst (λ (s : SiteView). GoesOn most old s) (sym is) goes
goes-behind most old mid new (inr says) goes = record {
  before = goes.before;
  image = goes.image;
  left = goes.left;
  stood = goes.stood;
  from_read = λ calm. goes.from_read (subst (λ (n : ℕ). DidNotRise old.disk.faults n) says.disk.faults calm);
  added = goes.added;
  reads = subst (λ (i : List ℕ). IsRecords i (goes.before ++ goes.added)) (sym (says.disk.stays 0).reads) goes.reads;
  is_run = goes.is_run;
  few = goes.few;
}

pub durably-behind : (most : ℕ) (old mid new : SiteView) → SaysAtMostALine mid new → GoesOnDurably most old mid → GoesOnDurably most old new
durably-behind most old mid new (inl is) goes = subst (λ (s : SiteView). GoesOnDurably most old s) (sym is) goes
durably-behind most old mid new (inr says) goes = record {
  goes_on = record {
    before = goes.goes_on.before;
    image = goes.goes_on.image;
    left = goes.goes_on.left;
    stood = goes.goes_on.stood;
    from_read = λ calm. goes.goes_on.from_read (subst (λ (n : ℕ). DidNotRise old.disk.faults n) says.disk.faults calm);
    added = goes.goes_on.added;
    reads = subst (λ (i : List ℕ). IsRecords i (goes.goes_on.before ++ goes.goes_on.added)) (sym (says.disk.stays 0).reads) goes.goes_on.reads;
    is_run = goes.goes_on.is_run;
    few = goes.goes_on.few;
  };
  was_read = goes.was_read;
  durable = λ calm image left. goes.durable (subst (λ (n : ℕ). DidNotRise old.disk.faults n) says.disk.faults calm) image
      (subst IsTrue ((says.disk.stays 0).images new.disk.beat image says.disk.goes_on.later (omega arith)) left);
}

-- ---- the session

module _ (given : Given) (run most : ℕ) (answers : List OperatorAnswer) (old mid : SiteView) (last : End) (h : HoldsSo given run most answers old mid last) (sound : IsSound old) (start : IsStart old run) where
  pub session-goes : GoesOn most old mid
  session-goes = go h.held
    where
      go : ClosesSo given run most answers old mid last ⊎ RefusesSo given run most answers old mid last → GoesOn most old mid
      go (inl c) = (each_close_goes_on c.close given run most answers old mid sound h.sound start (h.agreement start) c.closed).goes_on
      go (inr r) = each_refusal_goes_on r.error given run most answers old mid sound h.sound start (h.agreement start) r.why

  refused-durably : (error : WorldError) (why : HasRefused error given run most answers old mid) → opened_by why → GoesOnDurably most old mid
  refused-durably error (inl (inl journal)) is = absurd is
  refused-durably error (inl (inr filter)) is = each_second_refusal_goes_on error given run most answers old mid sound h.sound start (h.agreement start) filter
  refused-durably error (inr later) is = each_later_refusal_goes_on error given run most answers old mid sound h.sound start (h.agreement start) later

  pub session-durably : HasOpened h.held → GoesOnDurably most old mid
  session-durably = go h.held
    where
      go : (held : ClosesSo given run most answers old mid last ⊎ RefusesSo given run most answers old mid last) → HasOpened held → GoesOnDurably most old mid
      go (inl c) is = each_close_goes_on c.close given run most answers old mid sound h.sound start (h.agreement start) c.closed
      go (inr r) is = refused-durably r.error r.why is

  pub session-handles : (taken : List (ℕ × Parcel)) → Took old mid taken → AreHandled mid (handled_of h.held taken) × IsOfTaken taken run old mid
  session-handles taken took = go h.held
    where
      go : (held : ClosesSo given run most answers old mid last ⊎ RefusesSo given run most answers old mid last)
          → AreHandled mid (handled_of held taken) × IsOfTaken taken run old mid
      go (inl c) = each_close_handles c.close given run most answers old mid taken sound h.sound start c.closed took
      go (inr r) = each_refusal_handles r.error given run most answers old mid taken sound h.sound start r.why took
