-- The calls that are one edit at most.
use Rattle.mds_base.specs.declared.call.Call.{Call}
use Rattle.mds_base.specs.declared.call.Call.TheVariants.{Load}

abbrev pub IsNoLoad : Call → Type 0
IsNoLoad (Load dir rows) = ⊥
IsNoLoad call = Unit {0}
