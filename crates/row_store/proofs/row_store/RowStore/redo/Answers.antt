use Rattle.std.proofs.Common.{◌≡◌, ◌∙◌, sym, refl, Option}
use Rattle.mds_base.specs.RowKeys.{RowMap}
use Rattle.mds_base.specs.declared.store_fault.StoreFault.{StoreFault}
use Rattle.mds_base.specs.declared.store_fault.StoreFault.TheVariants.{OutOfMemory}
use Rattle.mds_out.specs.Disk.{Image}
use Rattle.row_store.specs.Store.{Kept, base_of}
use Rattle.row_store.specs.Value.{Keeps}
use Rattle.row_store.proofs.Firsts.{err_at}
use Rattle.row_store.proofs.Maps.{same_said}
use Rattle.row_store.proofs.row_store.RowStore.redo.Goals as goal

pub returns-in_err-apply-clause-refused : goal.returns-in_err-apply-clause-refused
returns-in_err-apply-clause-refused c =
    let P : StoreFault → Type 0 = λ fault. (fault ≡ OutOfMemory) × ((kept : Option Kept) → (rows : RowMap) → (image : Image) → Keeps c.args.self.now kept rows image → Keeps (record c.args.self.now { fresh = c.apply.new.fresh }) kept rows image) in
    err_at c.from_residual.result OutOfMemory P c.from_residual.ensures.1 (
      refl,
      λ kept rows image keeps. record { by = keeps.by; rows_are = keeps.rows_are ∙ sym (same_said (base_of kept) c.args.self.now.fresh.entries c.apply.new.fresh.entries c.in_err-apply.ensures.err) },
    )
