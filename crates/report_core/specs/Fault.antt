-- What ends a report when reading a row ends with a fault.
use Rattle.table_core.specs.declared.fault.RowFault.{RowFault}
use Rattle.table_core.specs.declared.fault.RowFault.TheVariants as row
use Rattle.report_core.specs.declared.fault.ReportFault.{ReportFault}
use Rattle.report_core.specs.declared.fault.ReportFault.TheVariants.{Row, NoMemory}

-- out of memory, or else the row is refused
abbrev pub fault_of_row : RowFault → ReportFault
fault_of_row row.NoMemory = NoMemory
fault_of_row fault = Row fault
