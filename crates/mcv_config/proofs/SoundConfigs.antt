-- Every configuration that a value names is sound.
use Rattle.std.proofs.Common.{◌≡◌, ℕ, List, Option, Some, None, bytes_eq, codes, subst}
use Rattle.std.specs.Cmp.Lexicographic.{bytes_decides}
use Rattle.serde_json.specs.Data.{Data, Members}
use Rattle.serde_json.specs.Find.{get, as_object}
use Rattle.mcv_pools.proofs.Tables.{one_to_one}
use Rattle.mcv_names.specs.declared.handle.Object.TheVariants as objects
use Rattle.mcv_names.specs.Fault.{good}
use Rattle.mcv_names.specs.Handles.{key_fault, keys_read}
use Rattle.mcv_names.specs.Path.{key_step}
use Rattle.mcv_names.proofs.ReadFacts.{Holds, holds_bind, holds_also}
use Rattle.mcv_config.specs.Config.{at_first, config_of_members, config_read, config_with, root}
use Rattle.mcv_config.specs.Entries.{routing_read}
use Rattle.mcv_config.specs.ConfigValue.{EntryValue, IsSound, ConfigValue, all_aliases}
use Rattle.mcv_config.specs.Pools.{Pools, Table, pools_read}
use Rattle.mcv_config.specs.Walk.{SoFar}
use Rattle.mcv_config.proofs.LaterPools.{IsSoFar}
use Rattle.mcv_config.proofs.SoundEntries.{AreEntries, routing_sound, sound_aliases, sound_routes}
use Rattle.mcv_config.proofs.SoundPools.{ArePools, IsText, all_of, pools_sound, pools_are_sound}

first_sound : (ps : Pools × Table) → ArePools ps → IsSoFar (at_first ps)
first_sound ps h = record { fits = h.named; pools = h.pools; is_table = h.is_table }

config_with_sound : (ps : List (List ℕ)) (t : List EntryValue × SoFar) → AreEntries ps t → IsSound (config_with t)
config_with_sound ps t h = record {
  texts = all_of IsText t.1.table h.grows.sound.is_table.texts;
  once = one_to_one bytes_eq bytes_decides t.1.table h.grows.sound.is_table.apart;
  apart = one_to_one bytes_eq bytes_decides (all_aliases t.0) h.apart;
  pools = pools_are_sound t.1.table t.1.pools.servers h.grows.sound.pools;
  some = h.some;
  routes = sound_routes ps t h;
  aliases = sound_aliases ps t h;
}

config_sound : (path : List ℕ) (d : Data) → Holds IsSound (config_read path d)
unfolding config_read
config_sound path d =
    holds_bind ArePools IsSound (pools_read (key_step path (codes "pools")) (get (codes "pools") d)) _ (pools_sound (key_step path (codes "pools")) (get (codes "pools") d))
    (λ ps h. holds_bind (AreEntries (at_first ps).pools.servers) IsSound (routing_read (at_first ps) path d) _ (routing_sound (at_first ps) path d (first_sound ps h))
    (λ t k. config_with_sound (at_first ps).pools.servers t k))

members_sound : (path : List ℕ) (d : Data) (o : Option Members) → Holds IsSound (config_of_members path d o)
members_sound path d None = tt
members_sound path d (Some ms) = holds_also IsSound (keys_read (key_fault objects.Root) path ms) (config_read path d) (config_sound path d)

root_sound : (path : List ℕ) (d : Data) → Holds IsSound (root path d)
unfolding root
root_sound path d = members_sound path d (as_object d)

pub read_configs_are_sound : (path : List ℕ) (d : Data) (config : ConfigValue) → root path d ≡ good config → IsSound config
read_configs_are_sound path d config h = subst (Holds IsSound) h (root_sound path d)
