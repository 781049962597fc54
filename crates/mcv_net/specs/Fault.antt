-- Why a proxy on sockets can't be run (own).
use Rattle.std.specs.Prelude.{ℕ}
use Rattle.mcv_serve.specs.declared.fault.ProxyFault.{ProxyFault}
use Rattle.mcv_serve.specs.declared.fault.ProxyFault.TheVariants as proxy_faults
use Rattle.mcv_net.specs.declared.fault.NetFault.{NetFault}
use Rattle.mcv_net.specs.declared.fault.NetFault.TheVariants.{Memory, Device}

abbrev pub fault_number : NetFault → ℕ
fault_number Memory = 1
fault_number Device = 2

-- wrong receipts are the proxy's own mistake: to who runs it something it depends on has failed
abbrev pub net_fault : ProxyFault → NetFault
net_fault proxy_faults.Memory = Memory
net_fault proxy_faults.Device = Device
net_fault proxy_faults.Receipt = Device
