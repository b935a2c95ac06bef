-- Disks that nobody has written yet are those of new servers.
use Rattle.std.proofs.Common.{◌≡◌, ◌∙◌, sym, ap, subst, refl, ℕ, zero, suc, ◌+◌, ◌<◌, ◌≤◌, List, [], ◌∷◌, ◌++◌, length, arith, Some, inl}
use Rattle.std.specs.Prelude.{is_some}
use Rattle.std.specs.List.{slice_get}
use Rattle.std.proofs.lemmas.List.FromFn.{length-map-range_with_len, get_or-map-range_with_len}
use Rattle.std.proofs.lemmas.Option.{slice_get_within, get_or_from_slice_get, same_Some, none-some}
use Rattle.mds_base.specs.declared.setup.Setup.{Setup}
use Rattle.mds_out.specs.Content.{bytes_of}
use Rattle.mds_out.specs.Disk.{Image, Contents}
use Rattle.mds_out.specs.Past.{Past, content_of, IsPastImage}
use Rattle.node_store.specs.Stands.{FileStandsFor}
use Rattle.node_store.proofs.StandingAlike.{new_stands}
use Rattle.world.specs.declared.state.ServerState.{ServerState}
use Rattle.world.specs.Law.{new_servers}
use Rattle.world.specs.Worlds.{new_server, store_of}
use Rattle.mds_cli.specs.Fresh.{IsNewDisk, NewDisksAreReached, NewMemoriesAreReached, AreNewMemories, memory_seen, memory_images}

-- the server at a place among new ones
new_at : (setup : Setup) (s : ℕ) (state : ServerState) → slice_get (new_servers setup) s ≡ Some state → state ≡ new_server setup s
new_at setup s state is =
    let count : length (new_servers setup) ≡ setup.servers = length-map-range_with_len (new_server setup) 0 setup.servers in
    let within : s < length (new_servers setup) = slice_get_within (new_servers setup) s state is in
    sym (get_or_from_slice_get (new_servers setup) s state state is)
    ∙ get_or-map-range_with_len (new_server setup) 0 setup.servers s s state (omega (arith, within, count)) (let e : 0 + s ≡ s = omega arith in e)

pub new_disks : {D : Type 0} (seen : D → Contents) (images : D → Image → Type 0) → NewDisksAreReached seen images
new_disks seen images setup disks count new = record {
  count = count ∙ sym (length-map-range_with_len (new_server setup) 0 setup.servers);
  told = record { at = λ s disk at. ap is_some (new.at s disk at).told };
  left = record {
    at = λ s state at disk has image left.
        inl (subst (λ x. FileStandsFor s setup (image 1) (store_of x)) (sym (new_at setup s state at)) (new_stands s setup (image 1) (inl (subst (λ b. length b < 2) (sym ((new.at s disk has).left image left)) (omega arith)))));
  };
}

-- ---- disks in memory

memory_at : (disks : List Past) → AreNewMemories disks → (s : ℕ) (disk : Past) → slice_get disks s ≡ Some disk → disk.acts ≡ []
memory_at [] new s disk at = absurd (none-some disk at)
memory_at (first ∷ disks) new zero disk at = subst (λ d. d.acts ≡ []) (same_Some first disk at) new.0
memory_at (first ∷ disks) new (suc s) disk at = memory_at disks new.1 s disk at

is_nil : (bytes : List ℕ) → length bytes ≤ 0 → bytes ≡ []
is_nil [] none = refl
is_nil (byte ∷ bytes) none = absurd (omega (arith, none))

new_memory : (disk : Past) → disk.acts ≡ [] → IsNewDisk memory_seen memory_images disk
new_memory disk none = record {
  told = ap (λ acts. Some (bytes_of (content_of disk.outcome acts 1))) none;
  left = λ image left. is_nil (image 1) (subst (λ acts. IsPastImage disk.outcome acts image) none left 1).longest;
}

pub new_memories : NewMemoriesAreReached
new_memories setup disks count new = new_disks memory_seen memory_images setup disks count (record { at = λ s disk at. new_memory disk (memory_at disks new s disk at) })

-- one more
pub memories_push : (disks : List Past) (disk : Past) → AreNewMemories disks → disk.acts ≡ [] → AreNewMemories (disks ++ disk ∷ [])
memories_push [] disk new none = (none, tt)
memories_push (first ∷ disks) disk new none = (new.0, memories_push disks disk new.1 none)
