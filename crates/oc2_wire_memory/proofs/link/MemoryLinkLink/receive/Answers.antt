use Rattle.std.proofs.Common.{◌≡◌, ◌∙◌, ◌+◌, ℕ, List, Some, length, take, ap, sym, subst}
use Rattle.oc2_wire_memory.specs.Pieces.{count_before, front_for, piece_left}
use Rattle.oc2_wire_memory.specs.declared.incoming.Incoming.{Incoming}
use Rattle.oc2_wire_memory.proofs.PieceLemmas.{came_over, some_asked}
use Rattle.oc2_wire_memory.proofs.link.MemoryLinkLink.receive.Goals as goal

abbrev front_by : ℕ → Incoming → List ℕ
front_by size incoming = front_for size (piece_left (count_before incoming.pieces.items incoming.number incoming.place) incoming.pieces.items)

pub returns-clause-bytes : goal.returns-clause-bytes
returns-clause-bytes c =
    let P : Incoming → Type 0 = λ incoming. take c.receive.result c.receive.new.into ≡ front_by (length c.args.into.now) incoming in
    subst P c.count_call.ensures.incoming c.receive.ensures.bytes

pub returns-clause-receives : goal.returns-clause-receives
returns-clause-receives c =
    let size : ℕ = length c.args.into.now in
    let old : Incoming = c.args.self.now.incoming in
    let bytes : List ℕ = take c.receive.result c.receive.new.into in
    let front : bytes ≡ front_by size old = returns-clause-bytes c in
    let P : Incoming → Type 0 = λ incoming. c.receive.result ≡ length (front_by size incoming) in
    let count : c.receive.result ≡ length bytes = subst P c.count_call.ensures.incoming c.receive.ensures.count ∙ ap length (sym front) in
    let Q : Incoming → Type 0 = λ incoming. count_before c.receive.new.self.pieces.items c.receive.new.self.number c.receive.new.self.place ≡ count_before incoming.pieces.items incoming.number incoming.place + c.receive.result in
    let goes = subst Q c.count_call.ensures.incoming c.receive.ensures.goes_on in
    let kept = c.receive.ensures.pieces ∙ ap (λ (incoming : Incoming). incoming.pieces.items) c.count_call.ensures.incoming in
    let came = came_over old.pieces.items c.receive.new.self.pieces.items (count_before old.pieces.items old.number old.place)
    (count_before c.receive.new.self.pieces.items c.receive.new.self.number c.receive.new.self.place) c.receive.result size bytes kept front count goes in
    record {
      sent = ap (λ sent. Some sent.items) c.count_call.ensures.sent;
      received = came.0;
      to_come = came.1;
      at_end = λ none asked. came.2 none (some_asked c.args.into.now asked);
    }
