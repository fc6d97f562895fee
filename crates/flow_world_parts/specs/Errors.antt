-- Promise: How refusals of the engine and of the filters become those of a session.
use Rattle.std.specs.Prelude.{ℕ, ⊤}
use Rattle.flow_world_steps.specs.LimitKind.TheVariants as limit
use Rattle.flow_world_steps.specs.EngineError.{EngineError}
use Rattle.flow_world_steps.specs.EngineError.TheVariants as engine_error
use Rattle.slpf_actuator.specs.declared.error.ActError.{ActError}
use Rattle.slpf_actuator.specs.declared.error.ActError.TheVariants as act_error
use Rattle.flow_world_parts.specs.declared.error.WorldError.{WorldError}
use Rattle.flow_world_parts.specs.declared.error.WorldError.TheVariants as error

-- the refusals of an engine whose disk had not failed before
abbrev pub MayRefuseAppend : EngineError → Type 0
MayRefuseAppend engine_error.Disk = ⊤
MayRefuseAppend (engine_error.Limit what) = ⊤
MayRefuseAppend engine_error.Memory = ⊤
MayRefuseAppend other = ⊥

abbrev pub append_refusal : EngineError → WorldError
append_refusal engine_error.Disk = error.Disk
append_refusal (engine_error.Limit what) = error.Limit what
append_refusal other = error.Memory

-- those of the opening of the journal, which is file 0
abbrev pub opening_refusal : EngineError → WorldError
opening_refusal engine_error.Disk = error.Disk
opening_refusal (engine_error.Damaged place) = error.Damaged 0 place
opening_refusal (engine_error.OtherRun held asked) = error.OtherRun held asked
opening_refusal (engine_error.OtherBook index) = error.OtherBook index
opening_refusal (engine_error.Limit what) = error.Limit what
opening_refusal other = error.Memory

-- those of a filter that had refused nothing before; where its file is full, a limit would be passed
abbrev pub MayRefuseAct : ActError → Type 0
MayRefuseAct act_error.Disk = ⊤
MayRefuseAct (act_error.Full needed) = ⊤
MayRefuseAct act_error.Memory = ⊤
MayRefuseAct other = ⊥

abbrev pub act_refusal : ActError → WorldError
act_refusal act_error.Disk = error.Disk
act_refusal (act_error.Full needed) = error.Limit limit.Journal
act_refusal other = error.Memory

-- those of the opening of a filter's file
abbrev pub MayRefuseFile : ActError → Type 0
MayRefuseFile act_error.Disk = ⊤
MayRefuseFile (act_error.Damaged place) = ⊤
MayRefuseFile act_error.Memory = ⊤
MayRefuseFile other = ⊥

abbrev pub file_refusal : ℕ → ActError → WorldError
file_refusal file act_error.Disk = error.Disk
file_refusal file (act_error.Damaged place) = error.Damaged file place
file_refusal file other = error.Memory
