-- What a function's own contract says and permits (`Says`), of any function: for theorems that are about the functions themselves.
pub mod Says
