-- Promise: What contracts see of a link over a socket.
use Rattle.std.specs.Prelude.{None}
use Rattle.oc2_wire_link.specs.Links.{LinkView}
use Rattle.oc2_wire_process.specs.declared.socket.SocketLink.{SocketLink}

-- the stream under it, which may tell what is written to it and what is left to read
abbrev pub stream_of : {T : Type 0} → SocketLink T → T
stream_of link = link.stream

-- it tells no bytes
abbrev pub socket_view : {T : Type 0} → SocketLink T → LinkView
socket_view link = record { sent = None; received = None; to_come = None; faults = link.faults }
