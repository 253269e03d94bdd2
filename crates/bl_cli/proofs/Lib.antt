mod SecondGroup
mod CopiedForm
