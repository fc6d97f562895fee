-- The port is said, or its line can't be made or said.
use Rattle.std.proofs.Common.{◌≡◌, ◌∙◌, refl, inl, inr, subst, ℕ, List}
use Rattle.cacao_site.specs.LinkCalls.{Gains}
use Rattle.cacao_cli_peers.specs.FilterServing.{port_line}
use Rattle.cacao_cli_peers.proofs.serving.serve.Goals as goal

pub returns-in_default-format-clause-serves : goal.returns-in_default-format-clause-serves
returns-in_default-format-clause-serves g c = inl (record {
  between = g.P.Peers.view c.bind.new.self;
  binds = (c.in-Ok-bind.ensures.counts, c.in-Ok-bind.ensures.faultless);
  next = c.in-Ok-bind.ensures.next;
  port = c.in-Ok-bind.port;
  is = c.in-Ok-bind.ensures.told;
  there = c.in-Ok-bind.ensures.port;
  goes_on = inr (record { peers = refl; why = inr (refl, refl) });
})

pub returns-in-Ok-say-clause-serves : goal.returns-in-Ok-say-clause-serves
returns-in-Ok-say-clause-serves g c =
    let said : c.as_bytes.result.now ≡ port_line c.in-Ok-bind.port = c.as_bytes.ensures.value ∙ c.in-Ok-format.ensures.ok in
    inl (record {
      between = g.P.Peers.view c.bind.new.self;
      binds = (c.in-Ok-bind.ensures.counts, c.in-Ok-bind.ensures.faultless);
      next = c.in-Ok-bind.ensures.next;
      port = c.in-Ok-bind.port;
      is = c.in-Ok-bind.ensures.told;
      there = c.in-Ok-bind.ensures.port;
      goes_on = inl (record {
        said = g.S.Disk.view c.say.new.self;
        says = record {
          only = c.say.ensures.only;
          said = subst (λ (bytes : List ℕ). Gains (g.S.Disk.view c.args.site.now).link.said ((g.S.Disk.view c.say.new.self).disk.beat, bytes) (g.S.Disk.view c.say.new.self).link.said) said c.in-Ok-say.ensures.said;
          unsaid = c.in-Ok-say.ensures.unsaid;
        };
        accepts = c.serve_one.ensures.accepts;
      });
    })

pub returns-clause-serves : goal.returns-clause-serves
returns-clause-serves g c = inl (record {
  between = g.P.Peers.view c.bind.new.self;
  binds = (c.in-Ok-bind.ensures.counts, c.in-Ok-bind.ensures.faultless);
  next = c.in-Ok-bind.ensures.next;
  port = c.in-Ok-bind.port;
  is = c.in-Ok-bind.ensures.told;
  there = c.in-Ok-bind.ensures.port;
  goes_on = inr (record { peers = refl; why = inl (record { only = c.say.ensures.only; said = c.in-Err.ensures.said_before; unsaid = c.in-Err.ensures.cause }, refl) });
})
