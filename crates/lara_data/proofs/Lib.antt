mod WorkedColumns
mod WorkedExprs
mod WorkedExtensions
mod WorkedScripts
mod WorkedTables
pub mod ColumnNames
pub mod ExprEquations
pub mod FitEquations
pub mod MeaningEquations
pub mod SizeEquations
pub mod TypedEquations
