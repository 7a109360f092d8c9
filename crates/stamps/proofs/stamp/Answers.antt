-- One word is read and written.
-- Assumes nothing.
use Prim.Native.Nat.{◌*◌, ◌/◌, ◌%◌, ◌<◌}
use mathlib.Core.Path.{refl}
use native.Mathlib.Omega.{arith}
use lib.ListN.{length}
use Rattle.stamps.specs.Stamp.{place_of, word_of, bits_of, marked, with_stamp, stamped}
use Rattle.stamps.proofs.BitLaws.{bit_is}
use Rattle.stamps.proofs.StampLaws.{place-small}
use Rattle.stamps.proofs.stamp.Goals as goal

-- One word is read and written.
-- Assumes nothing.
pub overflow_mul-p : goal.overflow_mul-p
overflow_mul-p c = let w : c.hash_of.result * length c.args.filter.now < 4294967296 * length c.args.filter.now = place-small _ _ _ c.requires.0 c.hash_of.ensures in omega arith

pub offset_bounds-filter-at : goal.offset_bounds-filter-at
offset_bounds-filter-at c = let w : c.hash_of.result * length c.args.filter.now < 4294967296 * length c.args.filter.now = place-small _ _ _ c.requires.0 c.hash_of.ensures in omega arith

pub bounds-filter-at : goal.bounds-filter-at
bounds-filter-at c = let w : c.hash_of.result * length c.args.filter.now < 4294967296 * length c.args.filter.now = place-small _ _ _ c.requires.0 c.hash_of.ensures in omega arith

pub offset_bounds-filter-at-2 : goal.offset_bounds-filter-at-2
offset_bounds-filter-at-2 c = let w : c.hash_of.result * length c.args.filter.now < 4294967296 * length c.args.filter.now = place-small _ _ _ c.requires.0 c.hash_of.ensures in omega arith

pub bounds-filter-at-2 : goal.bounds-filter-at-2
bounds-filter-at-2 c = let w : c.hash_of.result * length c.args.filter.now < 4294967296 * length c.args.filter.now = place-small _ _ _ c.requires.0 c.hash_of.ensures in omega arith

pub returns : goal.returns
unfolding place_of word_of bits_of marked with_stamp stamped
returns c =
    let p = c.hash_of.result * length c.args.filter.now in
    rw (bit_is (p / 67108864 % 64) (omega arith), bit_is (p / 1048576 % 64) (omega arith), c.hash_of.ensures) (record { value = refl; filter_after = refl })
