-- How all came that was appended since files were opened.
use Rattle.flow_world_laws.specs.AllCame.{EachAloneCame, EachWentOn, WentOn}
use Rattle.flow_world_laws.proofs.Acts.{act_came, offered_act_came}
use Rattle.flow_world_laws.proofs.Came.{offered_came, record_came, record_in_time}
use Rattle.flow_world_laws.proofs.Expires.{expiries_put}

pub each_went_on : EachWentOn
each_went_on given run most answers a b old new went = record {
  came = λ front back r split. (
    record_came given run most answers a b old new went front back r split,
    record_in_time given run most answers a b old new went front back r split,
  );
  offered = offered_came given run most answers a b old new went;
  acts = act_came given run most answers a b old new went;
  offered_acts = offered_act_came given run most answers a b old new went;
  expires = expiries_put given run most answers a b old new went;
}

pub each_alone_came : EachAloneCame
each_alone_came given run most answers a b old new journal begins steps to_is =
    let went : WentOn given run most answers a b old new = record {
      begins = begins;
      rest = journal.opens.only.rest;
      steps = steps;
      to_is = to_is;
    } in
    each_went_on given run most answers a b old new went
