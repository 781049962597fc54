-- Why a proxy ends where its loop can't go on (own).
use Rattle.mcv_loop.specs.declared.sources.SourceFault.{SourceFault}
use Rattle.mcv_loop.specs.declared.sources.SourceFault.TheVariants as sources
use Rattle.mcv_serve.specs.declared.fault.ProxyFault.{ProxyFault}
use Rattle.mcv_serve.specs.declared.fault.ProxyFault.TheVariants.{Memory, Device}

abbrev pub fault_behind : SourceFault → ProxyFault
fault_behind sources.Failed = Device
fault_behind sources.Memory = Memory
