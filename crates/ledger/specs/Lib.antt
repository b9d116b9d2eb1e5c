-- Laws alone: how the functions behind the gate come by what their contracts say. The rules that the contracts cite are crate `acts`'.
pub mod Answers
