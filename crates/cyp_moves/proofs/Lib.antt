mod BuiltTable
mod EachRow
mod Examples
mod FewPremises
mod PricedRows
